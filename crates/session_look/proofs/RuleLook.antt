-- A lookup by table and chains decides as the rule's lookup does.
use Rattle.spec_refusal.specs.declared.RecordNo.{RecordNo}
use Rattle.std.specs.Prelude.{Option, Some, None}
use Prim.Native.Nat.{ℕ}
use native.Mathlib.Omega.{arith}
use mathlib.Core.Path.{◌≡◌, refl, ap}
use mathlib.Core.List.{[], ◌∷◌}
use Rattle.spec_record.specs.Records.{records}
use Rattle.spec_rule.specs.RelevantSet.{as_book, Lookup, empty, found, endless, lookup}
use Rattle.spec_rule.specs.Authorizations.{authorization_from}
use Rattle.spec_rule.specs.Verdicts.{verdict_from, verdict}
use Rattle.spec_rule.proofs.Lookups.{a_lookup}
use Rattle.book_places.specs.Table.{table_of}
use Rattle.book_places.specs.Chains.{chains_of}
use Rattle.book_places.specs.NameAuthorizations.{by_set, meaning}
use Rattle.book_places.specs.Theorems.{Finds}
use Rattle.book_places.proofs.LookLaws.{look_by_offset}
use Rattle.book_places.proofs.AuthorizationLaws.{look_authorization_by_offset}
use Rattle.judge_set.specs.BySet.{verdict_by_set}
use Rattle.session_look.specs.Looks.{looked_by, looked_at}
use Rattle.session_look.specs.Theorems.{looked_by_rule, LookByTheRule}

pub look_by_the_rule : LookByTheRule
unfolding looked_at verdict_by_set verdict
look_by_the_rule who issuer book up wildcard x accepted good =
    go (lookup (as_book (records book)) x) refl _ (look_by_offset book x accepted good) (look_authorization_by_offset who book x wildcard accepted good)
  where
    go :
        (l : Lookup) → lookup (as_book (records book)) x ≡ l → (o : Option RecordNo) → Finds book (table_of book) (chains_of book).links l o →
        meaning who book (table_of book) (chains_of book).links (by_set book (table_of book) (chains_of book).links wildcard o) ≡ authorization_from who wildcard l →
        looked_by who issuer book (table_of book) (chains_of book).links up wildcard o ≡ looked_by_rule who issuer up wildcard l
    go empty e None f m = refl
    go empty e (Some r) f m = let h = f.first in let z : ◌≡◌ {A = ℕ} 0 1 = cc in absurd (omega arith)
    go (found []) e o f m = let (y, ends, selects, some-set) = ((a_lookup (as_book (records book)) x).1 []).0 e in absurd (some-set refl)
    go (found (c ∷ cs)) e None f m = let h = f.first in let z : ◌≡◌ {A = ℕ} 0 1 = cc in absurd (omega arith)
    go (found (c ∷ cs)) e (Some r) f m = ap (λ a. Some (verdict_from 0 issuer (record { says = a; up = up } ∷ []))) m
    go (endless q) e None f m = let h = f.first in let z : ◌≡◌ {A = ℕ} 0 1 = cc in absurd (omega arith)
    go (endless q) e (Some r) f m = ap (λ a. Some (verdict_from 0 issuer (record { says = a; up = up } ∷ []))) m
