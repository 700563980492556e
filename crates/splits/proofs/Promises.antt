-- The promises of specs/Promises.antt, proved.
-- Assumes nothing.
use mathlib.Core.Path.{sym, ◌∙◌}
use Rattle.problem.proofs.Refused.{one_told}
use Rattle.splits.specs.Promises.{OneByOne, ByRow, RequestRefusals, RequestAccepted, FirstOne, KindTryFromOne, ReadsRefusal, ReadsPieces, ReadsChecks, DiagonalPiece, DiagonalChecks, DomainOne, IsInstantiatedOne, AllInstantiatedOne, IsEmptyOne, InstantiateOne, WithoutOne, CutOne, CutEachOne, PrecludedOne, CandidatesOne, PieceOne, ChecksOne, RefusalOne, CountOne, ValuesOne, LosesOne, OutsideOne, OutsidesOne, FilledOne}
use Rattle.splits.proofs.split.OneByOne.{all_one_by_one}
use Rattle.splits.proofs.subproblem.Rows.{row_made}
use Rattle.splits.proofs.Apart.{apart_piece, apart_checks}
use Rattle.problem.proofs.Refusing.{first_one as one_first}
use Rattle.splits.proofs.refusal.Refusals.{first_refusal, is_none, same_refusal, same_pieces, same_checks}
use Rattle.problem.proofs.Answers.{one}
use Rattle.splits.proofs.Numbering.{decodes_once}

pub one_by_one : OneByOne
one_by_one = all_one_by_one

pub by_row : ByRow
by_row n allowed P V' v row few long small h its = row_made n allowed V' v row few its P long (λ i l. small i) h

pub request_refusals : RequestRefusals
request_refusals = first_refusal

pub request_accepted : RequestAccepted
request_accepted = is_none

pub first_one : FirstOne
first_one = one_first

pub kind_try_from_one : KindTryFromOne
kind_try_from_one word = decodes_once word

pub reads_refusal : ReadsRefusal
reads_refusal n d P r s h = same_refusal n P r s h d

pub reads_pieces : ReadsPieces
reads_pieces n allowed P r s h = same_pieces n P r s h allowed

pub reads_checks : ReadsChecks
reads_checks n allowed P r s h = same_checks n P r s h allowed

pub diagonal_piece : DiagonalPiece
diagonal_piece P n d tables others request k r h = apart_piece n d tables others h P request k r

pub diagonal_checks : DiagonalChecks
diagonal_checks P n d tables others request r h = apart_checks n d tables others h P request r

pub domain_one : DomainOne
domain_one P variable = one _

pub is_instantiated_one : IsInstantiatedOne
is_instantiated_one P variable = one _

pub all_instantiated_one : AllInstantiatedOne
all_instantiated_one P n = one _

pub is_empty_one : IsEmptyOne
is_empty_one P n = one _

pub instantiate_one : InstantiateOne
instantiate_one P variable value = one _

pub without_one : WithoutOne
without_one P variable mask = one _

pub cut_one : CutOne
cut_one P variable mask = one _

pub cut_each_one : CutEachOne
cut_each_one P masks = one _

pub precluded_one : PrecludedOne
precluded_one P variable row = one _

pub candidates_one : CandidatesOne
candidates_one n request = one _

pub piece_one : PieceOne
piece_one P n d tables request k = one _

pub checks_one : ChecksOne
checks_one P n d tables request = one _

pub refusal_one : RefusalOne
refusal_one P n d request = one_told (one _)

pub count_one : CountOne
count_one domain r s p q = p.0 ∙ sym q.0

pub values_one : ValuesOne
values_one domains = one _

pub loses_one : LosesOne
loses_one domains row = one _

pub outside_one : OutsideOne
outside_one domain mask = one _

pub outsides_one : OutsidesOne
outsides_one domains row = one _

pub filled_one : FilledOne
filled_one masks = one _
