-- The test whether an owner touches a name says what is stated of names, labels taken off and aliases.
use Prim.Native.Nat.{ℕ, zero, suc, ◌≤◌, ◌<◌}
use native.Mathlib.Nat.{not-suc-le-zero, le_of_suc-le-suc}
use native.Mathlib.Omega.{arith}
use mathlib.Core.Path.{◌≡◌, refl}
use mathlib.Core.Logic.{◌↔◌}
use mathlib.Core.Bool.{false}
use mathlib.Core.List.{List, [], ◌∷◌}
use lib.ListN.{length, drop}
use Rattle.spec_limits.specs.Limits.{max_aliases}
use Rattle.spec_octets.specs.Lists.{All, all_nil, all_cons}
use Rattle.spec_octets.proofs.ListLaws.{any_false, All-head, All-tail}
use Rattle.spec_octets.proofs.SelectLaws.{fails}
use Rattle.spec_name.specs.Names.{Name, same_name, ancestors}
use Rattle.spec_name.proofs.WholeNames.{whole_names}
use Rattle.spec_request.specs.Request.{base}
use Rattle.spec_rule.specs.Aliases.{Alias, aliases_of}
use Rattle.spec_rule.specs.RelevantSet.{Book}
use Rattle.spec_rule.specs.Meaning.{Leads, arrived, onward}
use Rattle.spec_rule.proofs.Following.{first_alias, the_first, has_alias}
use Rattle.spec_session.specs.Meaning.{targets, onward as onwards}
use Rattle.spec_edit.specs.Edits.{touches_from, touches}
use Rattle.spec_edit.specs.Meaning.{Apart, Untouched}

-- two names are told apart by the test
pub apart : (o x : Name) → (same_name o x ≡ false) ↔ Apart o x
apart o x = fails (same_name o) (whole_names.0 o) x

-- P holds of what 1 to n aliases from x lead to
abbrev Along : (Name → Type 0) → ℕ → List Alias → Name → Type 0
Along P n al x = (j : ℕ) (y : Name) → 1 ≤ j → j ≤ n → Leads al j x y → P y

module _ (P : Name → Type 0) (al : List Alias) where
  -- the targets are what the aliases lead to
  along : (n : ℕ) (x : Name) → All P (targets n al x) ↔ Along P n al x
  along zero x = (λ h j y low high l. absurd (omega arith), λ h. all_nil)
  along (suc n) x = go (aliases_of al x) refl (along n)
    where
      -- from the target on
      further : {t : Name} → P t → Along P n al t → {k : ℕ} {y : Name} → k ≤ n → Leads al k t y → P y
      further here later high arrived = here
      further here later high (onward {k} {y = y} g l) = later (suc k) y (omega arith) (omega arith) (onward g l)

      -- one alias, and no other
      next :
          {a : Alias} {bs : List Alias} → aliases_of al x ≡ a ∷ bs → P a.target → Along P n al a.target → {j : ℕ} {y : Name} → 1 ≤ j → j ≤ suc n →
          Leads al j x y → P y
      next e here later low high arrived = absurd (omega arith)
      next e here later low high (onward f l) = further here later (omega arith) (rw (the_first al x e f) at l)

      nowhere : aliases_of al x ≡ [] → {j : ℕ} {y : Name} → 1 ≤ j → Leads al j x y → P y
      nowhere e low arrived = absurd (omega arith)
      nowhere e low (onward f l) = absurd (has_alias al x e f)

      go :
          (bs : List Alias) → aliases_of al x ≡ bs → ((t : Name) → All P (targets n al t) ↔ Along P n al t) →
          All P (onwards bs (targets n al)) ↔ Along P (suc n) al x
      go [] e later = (λ h j y low high l. nowhere e low l, λ h. all_nil)
      go (a ∷ bs) e later = (
        λ h j y low high l. next e (All-head h) ((later a.target).0 (All-tail h)) low high l,
        λ h. all_cons
            (h 1 a.target (omega arith) (omega arith) (onward (first_alias al x e) arrived))
            ((later a.target).1 (λ j y low high l. h (suc j) y (omega arith) (omega arith) (onward (first_alias al x e) l))),
      )

-- of X and every name above it, by the labels taken off
abbrev Above : (Name → Type 0) → Name → Type 0
Above P x = (k : ℕ) → k < length x → P (drop k x)

above : (P : Name → Type 0) (x : Name) → All P (ancestors x) ↔ Above P x
above P [] = (λ h k less. absurd (not-suc-le-zero less), λ h. all_nil)
above P (l ∷ x) = (
  λ h. down (All-head h) ((above P x).0 (All-tail h)),
  λ h. all_cons (h 0 (omega arith)) ((above P x).1 (λ k less. h (suc k) (omega arith))),
)
  where
    down : P (l ∷ x) → Above P x → Above P (l ∷ x)
    down here rest zero less = here
    down here rest (suc k) less = rest k (le_of_suc-le-suc less)

module _ (al : List Alias) (o : Name) where
  -- the owner is none of these names
  abbrev pub NotAmong : List Name → Type 0
  NotAmong xs = All (λ y. same_name o y ≡ false) xs

  pub not_from : (x : Name) → (touches_from al o x ≡ false) ↔ NotAmong (x ∷ targets max_aliases al x)
  unfolding touches_from
  not_from x = any_false (same_name o) (x ∷ targets max_aliases al x)

  -- the same without the test
  abbrev ApartFrom : Name → Type 0
  ApartFrom x = Apart o x × Along (Apart o) max_aliases al x

  apart_from : (x : Name) → (touches_from al o x ≡ false) ↔ ApartFrom x
  apart_from x = (
    λ e. let h = (not_from x).0 e in
        ((apart o x).0 (All-head h), λ j y low high l. (apart o y).0 ((along (λ y. same_name o y ≡ false) al max_aliases x).0 (All-tail h) j y low high l)),
    λ (here, later). (not_from x).1 (all_cons
        ((apart o x).1 here)
        ((along (λ y. same_name o y ≡ false) al max_aliases x).1 (λ j y low high l. (apart o y).1 (later j y low high l)))),
  )

pub not_touched : (book : Book) (o n : Name) → (touches book o n ≡ false) ↔ All (λ x. touches_from book.aliases o x ≡ false) (ancestors (base n))
unfolding touches
not_touched book o n = any_false (touches_from book.aliases o) (ancestors (base n))

pub untouched : (book : Book) (o n : Name) → (touches book o n ≡ false) ↔ Untouched book o n
untouched book o n = (
  λ e k less. (apart_from book.aliases o (drop k (base n))).0 ((above _ (base n)).0 ((not_touched book o n).0 e) k less),
  λ h. (not_touched book o n).1 ((above _ (base n)).1 (λ k less. (apart_from book.aliases o (drop k (base n))).1 (h k less))),
)
