-- `reading::refusal_of_file` meets its contract.
use Rattle.blocks.proofs.reading.Found.{file_length, file_none, file_many, file_good, file_bad}
use Rattle.blocks.proofs.Whole.{refusal_made}
use Rattle.blocks.proofs.reading.refusal_of_file.Goals as goal

pub returns-then-file-blocks : goal.returns-then-file-blocks
returns-then-file-blocks c = refusal_made _ _ (file_length c.args.file.now c.if-file-blocks.true)

pub returns-then-blocks-lt1 : goal.returns-then-blocks-lt1
returns-then-blocks-lt1 c = refusal_made _ _ (file_none c.args.file.now c.if-blocks-lt1.true)

pub returns-then-blocks-gt-MOST : goal.returns-then-blocks-gt-MOST
returns-then-blocks-gt-MOST c = refusal_made _ _ (file_many c.args.file.now c.if-blocks-gt-MOST.true)

pub returns-then-all_good : goal.returns-then-all_good
returns-then-all_good c =
    refusal_made _ _ (file_good c.args.file.now _ c.if-file-blocks.false
    c.if-blocks-lt1.false c.if-blocks-gt-MOST.false c.all_good.ensures c.if-all_good.true)

pub returns : goal.returns
returns c = refusal_made _ _ (file_bad _ _ c.all_good.ensures c.if-all_good.false)
