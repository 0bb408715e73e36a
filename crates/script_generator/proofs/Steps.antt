-- One account, session or transfer more.
use Rattle.std.proofs.Common.{◌≡◌, refl, ℕ, ◌+◌, [], ◌∷◌, ◌++◌, add-one}
use Rattle.std.specs.Prelude.{codes}
use Rattle.std.specs.Fmt.{decimal}
use Rattle.script_generator.specs.Generated.{more_accounts, names_to, session_items, after_transfers, all_sessions, after_sessions}
use Rattle.script_generator.specs.Transfers.{after_transfer, drawn, transaction}

pub more_none : more_accounts 0 ≡ []
unfolding more_accounts
more_none = refl

pub more_next : (n : ℕ) → more_accounts (n + 1) ≡ more_accounts n ++ (codes ",(" ++ (decimal (n + 2) ++ codes ",100)"))
unfolding more_accounts
more_next n = rw add-one refl

pub names_none : names_to 0 ≡ codes "setup" ∷ []
unfolding names_to
names_none = refl

pub names_next : (s : ℕ) → names_to (s + 1) ≡ names_to s ++ (codes "s" ++ decimal (s + 1)) ∷ []
unfolding names_to
names_next s = rw add-one refl

pub items_none : (s state : ℕ) → session_items s 0 state ≡ []
unfolding session_items
items_none s state = refl

pub items_next : (s n state : ℕ) → session_items s (n + 1) state ≡ session_items s n state ++ transaction s (drawn (after_transfers n state))
unfolding session_items
items_next s n state = rw add-one refl

pub after_none : (state : ℕ) → after_transfers 0 state ≡ state
unfolding after_transfers
after_none state = refl

pub after_next : (n state : ℕ) → after_transfers (n + 1) state ≡ after_transfer (after_transfers n state)
unfolding after_transfers
after_next n state = rw add-one refl

pub all_none : (transfers state : ℕ) → all_sessions transfers 0 state ≡ []
unfolding all_sessions
all_none transfers state = refl

pub all_next : (transfers s state : ℕ) → all_sessions transfers (s + 1) state ≡ all_sessions transfers s state ++ session_items (s + 1) transfers (after_sessions transfers s state)
unfolding all_sessions
all_next transfers s state = rw add-one refl

pub after_all_none : (transfers state : ℕ) → after_sessions transfers 0 state ≡ state
unfolding after_sessions
after_all_none transfers state = refl

pub after_all_next : (transfers s state : ℕ) → after_sessions transfers (s + 1) state ≡ after_transfers transfers (after_sessions transfers s state)
unfolding after_sessions
after_all_next transfers s state = rw add-one refl
