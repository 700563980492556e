-- What the statements of this crate take from blocks, handed on.
unfoldable pub use Rattle.blocks.specs.Blocks.{blocks_for}
