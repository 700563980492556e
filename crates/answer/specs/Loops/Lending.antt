-- The lengths that are lent to load.
use Rattle.std.specs.Prelude.{◌≡◌, List, ℕ, ◌+◌, ◌*◌, ◌≤◌}
use Rattle.files.specs.Reading.{said_n, said_d}

-- Those that a file asks for, and 512 slots, where its numbers are in their ranges.
pub record Lends (file : List ℕ) (domains tables agenda : ℕ) : Type 0 where
  pub its_domains : said_n file ≤ 32 → domains ≡ said_n file
  pub its_tables : said_n file ≤ 32 → said_d file ≤ 16 → tables ≡ said_n file * said_n file * said_d file
  pub its_agenda : said_n file ≤ 32 → agenda ≡ 512 * (said_n file + 2)
