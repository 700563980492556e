-- `writing::Filled::head_word` meets its contract.
use mathlib.Core.Path.{refl}
use native.Mathlib.Omega.{arith}
use Rattle.blocks.proofs.writing.Written.{head_number, head_count, head_content}
use Rattle.blocks.proofs.writing.Filled.head_word.Goals as goal

pub returns-in-0 : goal.returns-in-0
returns-in-0 c = head_number _ _ _ _ c.in-0.is

pub returns-in-1 : goal.returns-in-1
returns-in-1 c = head_count _ _ _ _ c.in-1.is

pub returns-in_default : goal.returns-in_default
returns-in_default c = head_content _ _ _ _ _ (λ e. absurd (omega arith)) (λ e. absurd (omega arith)) c.requires.1 refl
