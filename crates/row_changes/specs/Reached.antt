-- How far a step of a change came, and the change as it is by then: what contracts say of a step that is made where the change lies.
use Rattle.store_api.specs.declared.moves.Move.{Move}

pub data Reached (T : Type 0) : Type 0 where
  -- some steps are left
  Went : T → Reached T
  Done : Reached T
  -- what came next was not done, and all is as it was
  Hindered : T → Move → Reached T
