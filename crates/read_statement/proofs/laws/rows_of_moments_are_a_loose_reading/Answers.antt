use Rattle.sql_history.specs.LooseReading.{newest}
use Rattle.read_statement.proofs.Loose.{replaced, loose, table_is}
use Rattle.read_statement.proofs.laws.rows_of_moments_are_a_loose_reading.Goals as goal

pub returns : goal.returns
returns c =
    λ h s table rows some rising each. (
      record { schemas = (newest h).schemas; rows = replaced table (newest h).rows rows },
      loose h s table rows some each,
      table_is h s table rows some each rising,
    )
