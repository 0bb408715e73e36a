use Rattle.law_crashes.proofs.Mount.{files_scanned, keeps_scanned}
use Rattle.law_crashes.proofs.files.files_that_were_read_stand.Goals as goal

pub returns-clause-stand : goal.returns-clause-stand
returns-clause-stand c =
    λ run first block rest base double pages root s law ticks is log_rests here header. files_scanned run first base block rest double pages root s law ticks
    is log_rests here header

pub returns-clause-keep : goal.returns-clause-keep
returns-clause-keep c =
    λ run first block rest base double pages root mid now law leaves scanned known calls. keeps_scanned run first base block rest double pages root mid now
    law leaves scanned known calls
