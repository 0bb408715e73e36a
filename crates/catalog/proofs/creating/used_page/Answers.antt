use Rattle.catalog.proofs.Makeables.{fits}
use Rattle.catalog.proofs.creating.used_page.Goals as goal

pub put_table-requires : goal.put_table-requires
put_table-requires c = fits c.args.schema.now c.requires
