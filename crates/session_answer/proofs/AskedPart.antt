-- The octets of the name asked for are a part of the kept name; and what is found for it.
use Rattle.spec_rule.specs.declared.Judgement.{Judgement}
use Rattle.std.proofs.lemmas.Option.{same_Some}
use Rattle.std.specs.Prelude.{Some, Option}
use Prim.Native.Nat.{ℕ, zero, suc, ◌-◌, ◌≤◌}
use native.Mathlib.Omega.{arith}
use mathlib.Core.Path.{◌≡◌, refl, ap, sym, ◌∙◌}
use mathlib.Core.List.{List, [], ◌∷◌, ◌++◌}
use lib.ListN.{length, take, drop, length-append}
use lib.Seq.{drop_at, take-length}
use Rattle.spec_name.specs.Names.{Name, wire, GoodName}
use Rattle.spec_request.specs.Request.{is_wildcard, base}
use Rattle.spec_request.proofs.RequestedNames.{good_base}
use Rattle.book_places.proofs.ClimbLaws.{good_parent}
use Rattle.spec_session.specs.declared.Session.{Session}
use Rattle.spec_session.specs.Sessions.{held, kept_name, kept_applicant}
use Rattle.spec_session.proofs.AskedName.{at_the_end}
use Rattle.session_kept.specs.declared.Place.{Place}
use Rattle.session_kept.specs.Places.{kept_at}
use Rattle.session_kept.proofs.NamesAbove.{name_alone}
use Rattle.session_check.proofs.KeptLaws.{place_of, at_place}
use Rattle.session_look.specs.Looks.{looked_at}

-- a valid name without its first labels is one
pub good_above : (u : ℕ) (x : Name) → GoodName x → GoodName (drop u x)
good_above zero x g = g
good_above (suc u) [] g = g
good_above (suc u) (l ∷ ls) g = good_above u ls (good_parent l ls g)

module _ (s : Session) (n : Name) (f : kept_name s ≡ Some n) where
  abbrev asked : Name
  asked = drop s.up (base n)

  kept_whole : (held s.name ≡ wire n) × GoodName n
  unfolding kept_name
  kept_whole = name_alone (held s.name) n f

  pub asked_good : GoodName (drop s.up (base n))
  asked_good = good_above s.up (base n) (good_base n kept_whole.1)

  -- o is where it begins
  pub name_octets : (o : ℕ) → o ≡ length (held s.name) - length (wire asked) → take (length (held s.name) - o) (drop o (held s.name)) ≡ wire asked
  name_octets o g =
      let (p, split) = at_the_end s.up n in
      let whole : held s.name ≡ p ++ wire asked = kept_whole.0 ∙ split in
      let at_p : o ≡ length p = omega (arith, ap length whole, length-append p (wire asked)) in
      let rest : drop o (held s.name) ≡ wire asked = ap (drop o) whole ∙ drop_at p (wire asked) o (sym at_p) in
      let long : length (held s.name) - o ≡ length (wire asked) = omega (arith, ap length whole, length-append p (wire asked)) in
      rw (rest, long) (take-length (wire asked))

-- what the code is given
module _ (s : Session) (p : Place) (k : kept_at s ≡ Some p) where
  pub asked_inside : (x : List ℕ) → x ≡ held s.name → p.offset ≤ length x
  asked_inside x h =
      let (n, f, place) = (at_place s p k).1 in
      omega (arith, ap (λ (q : Place). q.offset) place, ap length h)

  pub looked_there :
      (x a m i : List ℕ) → x ≡ held s.name → a ≡ held s.account → m ≡ held s.method → i ≡ held s.issuer → (b : List ℕ) (r : Option Judgement) →
      r ≡ looked_at (record { account = a; method = m }) i b s.up p.wildcard (take (length x - p.offset) (drop p.offset x)) → (n : Name) → kept_name s ≡ Some n →
      r ≡ looked_at (kept_applicant s) (held s.issuer) b s.up (is_wildcard n) (wire (drop s.up (base n)))
  unfolding kept_applicant
  looked_there x a m i hx ha hm hi b r g n f =
      let (n', f', place) = (at_place s p k).1 in
      let same : n' ≡ n = same_Some _ _ (sym f' ∙ f) in
      let here : p ≡ place_of (length (held s.name)) n s.up = rw same at place in
      g ∙ rw (hx, ha, hm, hi, name_octets s n f p.offset (ap (λ (q : Place). q.offset) here), ap (λ (q : Place). q.wildcard) here) refl
