-- The two audits agree.
use Rattle.std.proofs.Common.{◌↔◌, ℕ, ◌⊎◌, inl, inr}
use Rattle.std.specs.Prelude.{ℤ}
use Rattle.hp_audit.specs.Findings as audit
use Rattle.hp_audit.specs.declared.picture.Picture.{Picture}
use Rattle.hp_judge.specs.declared.finding.Clause.{Clause}
use Rattle.hp_judge.specs.declared.finding.Clause.TheVariants as clauses
use Rattle.hp_judge.specs.declared.finding.Finding.{Finding}
use Rattle.hp_judge.specs.declared.finding.Finding.TheVariants as finding
use Rattle.hp_agree.specs.Agreement.{Finds, FindsLine, FindsNothing}
use Rattle.hp_agree.specs.Listed.{IsInLimit, IsListed}
use Rattle.hp_agree.proofs.Either.{one_of}
use Rattle.hp_agree.proofs.EachKind as kinds
use Rattle.hp_agree.proofs.Order.{order}

-- what is right lies below the limit
in_limit : (p : Picture) → audit.IsShaped p → IsInLimit p
in_limit p shaped =
    record {
      files = λ k d within. record {
        regions = λ j e lt. ((shaped.files k d within).regions j e lt).1;
        pages = (shaped.files k d within).pages;
      };
      tables = λ k d within. (shaped.tables k d within).1;
    }

-- nothing is found in what is right
nothing : (p : Picture) → IsListed p → audit.IsRight p → FindsNothing p
nothing p listed (shaped, agrees, alone, below, counted, used) = none
  where
    limit : IsInLimit p
    limit = in_limit p shaped

    none_in : (clause : Clause) (n : ℕ) → Finds p (finding.Line clause n) → ⊥
    none_in clauses.Region n found = (order p limit).alone listed (inl (n, found))
    none_in clauses.Page n found = (order p limit).alone listed (inr (n, found))
    none_in clauses.File n found = (kinds.shape p listed limit).alone shaped (n, found)
    none_in clauses.Agree n found = (kinds.agree p).alone agrees (n, found)
    none_in clauses.Size n found = (kinds.size p).alone below (n, found)

    none : (f : Finding) → Finds p f → ⊥
    none (finding.Line clause n) found = none_in clause n found
    none (finding.Place x) found = (kinds.place p).alone alone (x, found)
    none (finding.Count wanted) found = (kinds.count p listed limit).alone counted (inl (wanted, found))
    none finding.Free found = (kinds.count p listed limit).alone counted (inr found)
    none (finding.Used wanted) found = (kinds.used p listed limit).alone used (inl (wanted, found))
    none finding.Quota found = (kinds.used p listed limit).alone used (inr found)

-- where nothing is found it is right
right : (p : Picture) → IsListed p → IsInLimit p → FindsNothing p → audit.IsRight p
right p listed limit none = (
  one_of (kinds.shape p listed limit) (λ found. none (finding.Line clauses.File found.0) found.1),
  one_of (kinds.agree p) (λ found. none (finding.Line clauses.Agree found.0) found.1),
  one_of (kinds.place p) (λ found. none (finding.Place found.0) found.1),
  one_of (kinds.size p) (λ found. none (finding.Line clauses.Size found.0) found.1),
  one_of (kinds.count p listed limit) count,
  one_of (kinds.used p listed limit) used,
)
  where
    count : ((wanted : ℤ) × Finds p (finding.Count wanted)) ⊎ Finds p finding.Free → ⊥
    count (inl found) = none (finding.Count found.0) found.1
    count (inr found) = none finding.Free found

    used : ((wanted : ℤ) × Finds p (finding.Used wanted)) ⊎ Finds p finding.Quota → ⊥
    used (inl found) = none (finding.Used found.0) found.1
    used (inr found) = none finding.Quota found

-- and listed in order
listed_of : (p : Picture) → IsInLimit p → FindsNothing p → IsListed p
listed_of p limit none = one_of (order p limit) wrong
  where
    wrong : FindsLine p clauses.Region ⊎ FindsLine p clauses.Page → ⊥
    wrong (inl found) = none (finding.Line clauses.Region found.0) found.1
    wrong (inr found) = none (finding.Line clauses.Page found.0) found.1

-- so the audits agree on what is listed in order, ..
pub agree_on_listed : (p : Picture) → IsListed p → audit.IsRight p ↔ (IsInLimit p × FindsNothing p)
agree_on_listed p listed = (λ is. (in_limit p is.0, nothing p listed is), λ is. right p listed is.0 is.1)

-- .. and below the limit, but for the order
pub agree_in_limit : (p : Picture) → IsInLimit p → FindsNothing p ↔ (audit.IsRight p × IsListed p)
agree_in_limit p limit = (λ none. found_right (listed_of p limit none) none, λ is. nothing p is.1 is.0)
  where
    found_right : IsListed p → FindsNothing p → audit.IsRight p × IsListed p
    found_right listed none = (right p listed limit none, listed)
