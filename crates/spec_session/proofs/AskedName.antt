-- The name asked for is at the end of the kept name.
use Rattle.std.proofs.lemmas.Option.{same_Some, none-some}
use Prim.Native.Nat.{ℕ, zero, suc, ◌+◌, ◌-◌}
use native.Mathlib.Omega.{arith}
use mathlib.Core.Path.{◌≡◌, refl, ap, sym, ◌∙◌}
use mathlib.Core.Bool.{Bool, true, false, cond}
use mathlib.Core.List.{List, [], ◌∷◌, ◌++◌, append_assoc}
use lib.ListN.{length, take, drop, length-append}
use lib.Seq.{drop_at, take-length}
use Rattle.spec_name.specs.Names.{Name, wire}
use Rattle.spec_name.proofs.NameLaws.{wire_form}
use Rattle.spec_request.specs.Request.{is_asterisk, base}
use Rattle.spec_session.specs.declared.SessionAnswer.TheVariants.{Asks}
use Rattle.spec_session.specs.Sessions.{held, kept_name, state}
use Rattle.spec_session.specs.Theorems.{AskedOctets}
use Rattle.spec_session.proofs.Kept.{one_name_read}
use Rattle.spec_session.proofs.StepLaws.{live, asks, not_ended}

-- y is at the end of n
abbrev pub EndOf : Name → Name → Type 0
EndOf n y = (p : List ℕ) × (wire n ≡ p ++ wire y)

one_label : (l : List ℕ) (x y : Name) → EndOf x y → EndOf (l ∷ x) y
one_label l x y (p, e) = (
  (length l ∷ l) ++ p,
  wire_form.1 l x ∙ ap (λ w. (length l ∷ l) ++ w) e ∙ sym (append_assoc (length l ∷ l) p (wire y)),
)

labels_off_lem : (u : ℕ) (x : Name) → EndOf x (drop u x)
labels_off_lem zero x = ([], refl)
labels_off_lem (suc u) [] = ([], refl)
labels_off_lem (suc u) (l ∷ x) = one_label l x (drop u x) (labels_off_lem u x)

without_asterisk : (n y : Name) → EndOf (base n) y → EndOf n y
unfolding base
without_asterisk [] y h = h
without_asterisk (l ∷ ls) y h = go (is_asterisk l) h
  where
    go : (t : Bool) → EndOf (cond t ls (l ∷ ls)) y → EndOf (l ∷ ls) y
    go true h = one_label l ls y h
    go false h = h

pub at_the_end : (u : ℕ) (n : Name) → EndOf n (drop u (base n))
at_the_end u n = without_asterisk n (drop u (base n)) (labels_off_lem u (base n))

pub asked_octets : AskedOctets
unfolding state kept_name
asked_octets s y o e =
    let t = not_ended s (λ z. none-some y (sym z ∙ e)) in
    let l = live s t in
    let same = same_Some _ _ (sym e ∙ asks s l.name t l.kept) in
    let (whole, good) = (one_name_read (held s.name) o l.name).0 l.kept in
    let (p, f) = at_the_end s.up l.name in
    placed p (whole ∙ f ∙ ap (λ z. p ++ wire z) (sym same))
  where
    placed :
        (p : List ℕ) → held s.name ≡ p ++ wire y →
        (i k : ℕ) × (state s ≡ Asks i k) × (k ≡ length (wire y)) × (take k (drop i (held s.name)) ≡ wire y) × (i + k ≡ length (held s.name))
    placed p f =
        let sizes = length-append p (wire y) in
        let at_p : length (p ++ wire y) - length (wire y) ≡ length p = omega (arith, sizes) in (
          length p,
          length (wire y),
          rw (e, f) (ap (λ i. Asks i (length (wire y))) at_p),
          refl,
          rw (f, drop_at p (wire y) (length p) refl) (take-length (wire y)),
          rw f (omega (arith, sizes)),
        )
