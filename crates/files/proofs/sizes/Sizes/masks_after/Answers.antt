-- `sizes::Sizes::masks_after` meets its contract.
use Rattle.files.proofs.content.Written.{row_in}
use Rattle.files.proofs.sizes.Sizes.masks_after.Goals as goal

pub part-requires : goal.part-requires
part-requires c = (row_in _ _ _ _ c.args.self.numbers c.requires).within
