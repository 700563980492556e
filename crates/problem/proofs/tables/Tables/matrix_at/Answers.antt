-- `Tables::matrix_at` meets its contract: the masks stand within the tables, and zeros follow where they are fewer than 16.
use Rattle.problem.proofs.symmetry.Pairs.{matrix_whole, matrix_part}
use Rattle.problem.proofs.tables.Tables.matrix_at.Goals as goal

pub returns-then-self-eq16 : goal.returns-then-self-eq16
returns-then-self-eq16 c =
    let p = c.requires in
    matrix_whole _ _ _ _ _ c.args.self.now.fit p.0 p.1 _ c.if-self-eq16.true c.matrix_of.ensures.0

pub returns : goal.returns
returns c =
    let p = c.requires in
    matrix_part _ _ _ _ _ c.args.self.now.fit p.0 p.1 _ _ c.padded.ensures c.matrix_of-2.ensures.0
