-- The promises of blocks, proved.
-- Assumes nothing.
use mathlib.Core.Path.{refl, sym, ◌∙◌}
use native.Mathlib.Omega.{arith}
use Rattle.problem.proofs.Refused.{one_told}
use Rattle.problem.proofs.Answers.{one}
use Rattle.blocks.specs.Blocks.{carried, ones_sum, check_of, file_of}
use Rattle.blocks.specs.Promises.{BlocksWhole, BlocksRead, BlocksLength, BlocksBytes, CheckWord, SumFolded, Rfc1071, Refused14, RefusedNone, CheckOfOne, RefusalOfFileOne, ContentWordOne, PutContentOne, PutBlocksOne}
use Rattle.blocks.proofs.checksum.Sums
use Rattle.blocks.proofs.Blocks
use Rattle.blocks.proofs.Whole

pub blocks_whole : BlocksWhole
blocks_whole content some few = (Whole.refusal_not_14 (file_of content)).0 (Blocks.file_passes content some few)

pub blocks_read : BlocksRead
blocks_read = Blocks.file_content

pub blocks_length : BlocksLength
blocks_length = Blocks.file_length

pub blocks_bytes : BlocksBytes
blocks_bytes content words few = Blocks.file_small content few words

pub check_word : CheckWord
check_word = Sums.check_complement

pub sum_folded : SumFolded
sum_folded ws t y z words few = Sums.twice_is ws t y z words (omega arith)

pub rfc_1071 : Rfc1071
unfolding ones_sum check_of carried
rfc_1071 = (refl, refl)

pub refused_14 : Refused14
refused_14 = Whole.refusal_14

pub refused_none : RefusedNone
refused_none = Whole.refusal_not_14

pub check_of_one : CheckOfOne
check_of_one block = one _

pub refusal_of_file_one : RefusalOfFileOne
refusal_of_file_one file = one_told (λ r s h k. Whole.refusal_is file r h ∙ sym (Whole.refusal_is file s k))

pub content_word_one : ContentWordOne
content_word_one file k = one _

pub put_content_one : PutContentOne
put_content_one file before r s h k = h ∙ sym k

pub put_blocks_one : PutBlocksOne
put_blocks_one content before r s h k = h ∙ sym k
