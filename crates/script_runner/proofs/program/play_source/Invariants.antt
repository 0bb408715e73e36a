use Rattle.script_runner.proofs.program.play_source.Given as goal

-- the past of the disk as it is handed in
abbrev pub ghosts-serve : goal.ghosts-serve
ghosts-serve g a = record { root = g.D.Disk.past a.disk }
