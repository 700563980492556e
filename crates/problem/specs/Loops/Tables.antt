-- Tables that fit their numbers, as the code has them.
use Rattle.problem.specs.Problem.{Table, table_of}
use Rattle.problem.specs.declared.tables.Tables.{Tables}

-- What they allow.
abbrev pub allowed : Tables → Table
allowed t = table_of t.n t.d t.words.now
