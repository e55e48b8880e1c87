-- For callers of read_value: its result is one of the three cases of issue_value, and name and parameters are at the offsets returned.
use Prim.Native.Nat.{ℕ, ◌+◌, ◌-◌, ◌≤◌, ◌<◌}
use Prim.Native.Char.{code}
use native.Mathlib.Omega.{arith}
use mathlib.Core.Path.{◌≡◌, refl, sym, ap, subst, ◌∙◌}
use mathlib.Core.Logic.{◌↔◌, ⊎_elim}
use mathlib.Core.List.{List, [], ◌++◌}
use lib.Dec.{ltb}
use lib.ListN.{length, take, drop, length-append, drop_of_length-le}
use lib.Seq.{take-append_seam, drop_at}
use borrow.Author.Tests.{ltb-true, ltb-false}
use Rattle.spec_octets.specs.Octets.{trim_start}
use Rattle.spec_octets.proofs.ListLaws.{true_or_false}
use Rattle.spec_octets.proofs.WholeLists.{not_empty}
use Rattle.text_labels.specs.Places.{piece_end}
use Rattle.read_value.specs.declared.NameAt.{NameAt}
use Rattle.read_value.specs.declared.ValueRead.{ValueRead}
use Rattle.read_value.specs.declared.ValueRead.TheVariants.{Malformed, Nameless, Named}
use Rattle.spec_value.specs.IssueValues.{IssueValue, malformed, nameless, named, issue_value}
use Rattle.spec_value.specs.Parameters.{parameters_in}
use Rattle.read_parameters.specs.Parameters.{parameters_behind}
use Rattle.read_parameters.proofs.FirstPiece.{cut_last, cut_more}
use Rattle.read_value.specs.Places.{parameters_from, name_places, value_at}
use Rattle.read_value.specs.Theorems.{ValueByPlace}
use Rattle.spec_octets.proofs.TrimEnds.{trim_start_takes}
use Rattle.spec_value.proofs.Values.{name_in_front}
use Rattle.read_value.proofs.NamePlaces.{from_name}

-- the octets m stand in s at n, and the parameters of s behind them
pub record Stands (s : List ℕ) (n : NameAt) (m : List ℕ) : Type 0 where
  pub some : n.from < n.to
  pub within : n.to ≤ length s
  pub there : m ≡ take (n.to - n.from) (drop n.from s)
  pub ended : n.parameters ≤ length s
  pub behind : parameters_in s ≡ parameters_behind (drop n.parameters s)

-- the parameters begin after the first semicolon; without one there are none
module _ (s : List ℕ) where
  abbrev e : ℕ
  e = piece_end (code ";") s 0

  from_within : parameters_from s ≤ length s
  from_within = ⊎_elim
      (λ h. let less = ltb-true e (length s) h in rw h (omega (arith, less)))
      (λ h. rw h (omega arith))
      (true_or_false (ltb e (length s)))

  parameters_there : parameters_in s ≡ parameters_behind (drop (parameters_from s) s)
  unfolding parameters_in
  parameters_there = ⊎_elim
      (λ h. let from : parameters_from s ≡ e + 1 = rw h in rw (from, cut_more (code ";") s e refl (ltb-true e (length s) h)))
      (λ h. let from : parameters_from s ≡ length s = rw h in
      let none : drop (length s) s ≡ [] = drop_of_length-le s {i = length s} (omega arith) in
      rw (from, cut_last (code ";") s e refl (ltb-false e (length s) h), none))
      (true_or_false (ltb e (length s)))

module _ (s : List ℕ) where
  abbrev place : List ℕ → NameAt
  place m = record {
    from = length s - length (trim_start s);
    to = length s - length (trim_start s) + length m;
    parameters = parameters_from s;
  }

  stands : (m : List ℕ) → issue_value s ≡ named m → Stands s (place m) m
  stands m e =
      let (f, r, whole, found, some) = name_in_front s m e in
      let (b, first, long) = from_name f r (λ none. some (sym found ∙ none)) in
      let (a, made, blank) = trim_start_takes s in
      let left : trim_start s ≡ m ++ b = ap trim_start whole ∙ first ∙ ap (λ l. l ++ b) found in
      at a b (made ∙ ap (λ l. a ++ l) left) left (not_empty m some)
    where
      at : (a b : List ℕ) → s ≡ a ++ (m ++ b) → trim_start s ≡ m ++ b → 0 < length m → Stands s (place m) m
      at a b made left some =
          let k = (place m).from in
          let all = ap length made ∙ length-append a (m ++ b) in
          let front : length a ≡ k = omega (arith, ap length left) in
          let rest : drop k s ≡ m ++ b = ap (drop k) made ∙ drop_at a (m ++ b) k front in
          let long : (place m).to - k ≡ length m = omega arith in
          record {
            some = omega arith;
            within = omega (arith, ap length left, length-append m b);
            there = sym (rw (long, rest) (take-append_seam m b));
            ended = from_within s;
            behind = parameters_there s;
          }

  malformed_told : (v : IssueValue) → (name_places s (parameters_from s) v ≡ Malformed) ↔ (v ≡ malformed)
  malformed_told malformed = (λ e. refl, λ e. refl)
  malformed_told nameless = (λ e. cc, λ e. cc)
  malformed_told (named m) = (λ e. cc, λ e. cc)

  nameless_told : (v : IssueValue) → (name_places s (parameters_from s) v ≡ Nameless) ↔ (v ≡ nameless)
  nameless_told malformed = (λ e. cc, λ e. cc)
  nameless_told nameless = (λ e. refl, λ e. refl)
  nameless_told (named m) = (λ e. cc, λ e. cc)

  pub malformed_at : (value_at s ≡ Malformed) ↔ (issue_value s ≡ malformed)
  unfolding value_at
  malformed_at = malformed_told (issue_value s)

  pub nameless_at : (value_at s ≡ Nameless) ↔ (issue_value s ≡ nameless)
  unfolding value_at
  nameless_at = nameless_told (issue_value s)

  named_told : (n : NameAt) → value_at s ≡ Named n → (m : List ℕ) × (issue_value s ≡ named m) × Stands s n m
  unfolding value_at
  named_told n = go (issue_value s) refl
    where
      go : (v : IssueValue) → issue_value s ≡ v → name_places s (parameters_from s) v ≡ Named n → (m : List ℕ) × (issue_value s ≡ named m) × Stands s n m
      go malformed e told = let z : ◌≡◌ {A = ℕ} 0 1 = cc in absurd (omega arith)
      go nameless e told = let z : ◌≡◌ {A = ℕ} 0 1 = cc in absurd (omega arith)
      go (named m) e told = let same : place m ≡ n = cc in (m, e, subst (λ n. Stands s n m) same (stands m e))

-- o is the answer
module _ (s : List ℕ) (o : ValueRead) (read : o ≡ value_at s) where
  pub read_malformed : o ≡ Malformed → issue_value s ≡ malformed
  read_malformed told = (malformed_at s).0 (sym read ∙ told)

  pub read_nameless : o ≡ Nameless → issue_value s ≡ nameless
  read_nameless told = (nameless_at s).0 (sym read ∙ told)

  module _ (n : NameAt) (told : o ≡ Named n) where
    pub name_from : n.from ≤ n.to
    name_from = let k = named_told s n (sym read ∙ told) in omega (arith, k.2.some)

    pub name_to : n.to ≤ length s
    name_to = (named_told s n (sym read ∙ told)).2.within

    pub parameters_within : n.parameters ≤ length s
    parameters_within = (named_told s n (sym read ∙ told)).2.ended

    pub read_parameters : parameters_in s ≡ parameters_behind (drop n.parameters s)
    read_parameters = (named_told s n (sym read ∙ told)).2.behind

    pub read_named : (x : List ℕ) → x ≡ take (n.to - n.from) (drop n.from s) → issue_value s ≡ named x
    read_named x part = let (m, e, here) = named_told s n (sym read ∙ told) in e ∙ ap named (here.there ∙ sym part)

pub value_by_place : ValueByPlace
value_by_place s n told = (read_named s (value_at s) refl n told _ refl, read_parameters s (value_at s) refl n told)
