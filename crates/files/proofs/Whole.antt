-- What the laws of blocks say of 14, handed on.
-- Assumes nothing.
pub use Rattle.blocks.proofs.Whole.{file_either, refusal_14, refusal_not_14}
