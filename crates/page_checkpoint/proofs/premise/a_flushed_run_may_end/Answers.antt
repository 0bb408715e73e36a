use Rattle.page_checkpoint.proofs.premise.a_flushed_run_may_end.Goals as goal

pub returns : goal.returns
returns c = λ capacity first groups base pool log s file held kept header. record { file = file; held = held; each = kept; header = header }
