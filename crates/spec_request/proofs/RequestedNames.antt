-- Valid requested names: the forms X and *.X, and when such a name is read.
use Rattle.std.specs.Prelude.{Some}
use Prim.Native.Nat.{ℕ}
use native.Mathlib.Omega.{arith}
use mathlib.Core.Path.{◌≡◌, refl}
use mathlib.Core.Logic.Iff
use mathlib.Core.Logic.{◌↔◌, ◌≢◌, ◌⊎◌, inl, inr}
use mathlib.Core.Bool.{Bool, true, false, cond, not, false≢true, and-eq-true_iff}
use mathlib.Core.List.{List, [], ◌∷◌, ◌++◌, cons≢nil}
use lib.ListN.{length-append}
use Rattle.spec_octets.specs.Lists.{All, all, is_empty}
use Rattle.spec_octets.specs.Octets.{text, is_upper, is_lower, is_digit, is_letter_or_digit}
use Rattle.spec_octets.specs.Label.{is_letter_digit_hyphen, is_host_label, HostLabel}
use Rattle.spec_octets.proofs.ListLaws.{true_or_false, not_passed, all_true, All-head, All-tail, All-imp}
use Rattle.spec_octets.proofs.Texts.{same_equal}
use Rattle.spec_octets.proofs.Labels.{host_labels}
use Rattle.spec_octets.proofs.ReaderLaws.{given_some}
use Rattle.spec_octets.proofs.Fields.{then_read, then_stand, given_read}
use Rattle.spec_name.specs.Names.{Label, Name, wire, GoodName}
use Rattle.spec_name.proofs.NameField.{name_field}
use Rattle.spec_request.specs.Request.{is_asterisk, is_wildcard, base, is_requestable, requested_name, GoodRequested}
use Rattle.spec_request.specs.Theorems.{WildcardForm, RequestedNameIsItsLabels}

pub wildcard_form : WildcardForm
unfolding is_wildcard base
wildcard_form = (λ x. (refl, refl), λ l x other. let e = plain l other in (e, rw e), refl, refl)
  where
    plain : (l : Label) → l ≢ text "*" → is_asterisk l ≡ false
    plain l other = not_passed (is_asterisk l) (λ e. other ((same_equal l (text "*")).0 e))

base_form : (n : Name) → (n ≡ base n) ⊎ (n ≡ text "*" ∷ base n)
unfolding base
base_form [] = inl refl
base_form (l ∷ n) = go (true_or_false (is_asterisk l))
  where
    go : (is_asterisk l ≡ true) ⊎ (is_asterisk l ≡ false) → (l ∷ n ≡ base (l ∷ n)) ⊎ (l ∷ n ≡ text "*" ∷ base (l ∷ n))
    go (inl e) = inr (rw (e, (same_equal l (text "*")).0 e))
    go (inr e) = inl (rw e)

no_asterisk : (l : Label) → HostLabel l → l ≢ text "*"
unfolding is_letter_digit_hyphen is_letter_or_digit is_upper is_lower is_digit
no_asterisk l h e = false≢true (All-head (rw e at h.2))

host_base : (x : Name) → All HostLabel x → base x ≡ x
unfolding base
host_base [] h = refl
host_base (l ∷ x) h = (wildcard_form.1 l x (no_asterisk l (All-head h))).1

-- a name is X or *.X in one way
one_base : (n x : Name) → (n ≡ x) ⊎ (n ≡ text "*" ∷ x) → All HostLabel x → base n ≡ x
one_base n x (inl e) h = rw e (host_base x h)
one_base n x (inr e) h = rw e (wildcard_form.0 x).1

not_root : (x : Name) → (not (is_empty x) ≡ true) ↔ (x ≢ [])
not_root [] = (λ e. absurd (false≢true e), λ h. absurd (h refl))
not_root (l ∷ x) = (λ e. cons≢nil, λ h. refl)

host_names : (x : Name) → (all is_host_label x ≡ true) ↔ All HostLabel x
host_names x = (
  λ e. All-imp (λ l. (host_labels l).0) ((all_true is_host_label x).0 e),
  λ h. (all_true is_host_label x).1 (All-imp (λ l. (host_labels l).1) h),
)

requestable : (n : Name) → (is_requestable n ≡ true) ↔ ((x : Name) × ((n ≡ x) ⊎ (n ≡ text "*" ∷ x)) × (x ≢ []) × All HostLabel x)
unfolding is_requestable
requestable n = (
  λ e. let (full, hosts) = tests.0 e in (base n, base_form n, full, hosts),
  λ h. let (x, form, full, hosts) = h in tests.1 (rw (one_base n x form hosts) (full, hosts)),
)
  where
    tests : (is_requestable n ≡ true) ↔ ((base n ≢ []) × All HostLabel (base n))
    tests = Iff.trans (and-eq-true_iff (not (is_empty (base n))) (all is_host_label (base n))) (Iff.and (not_root (base n)) (host_names (base n)))

pub requested_name_is_its_labels : RequestedNameIsItsLabels
unfolding requested_name
requested_name_is_its_labels s o n rest = (read, stand)
  where
    Stands : Name → List ℕ → Type 0
    Stands n rest = (s ≡ wire n ++ rest) × GoodRequested n

    read : requested_name s ≡ Some (n, rest) → Stands n rest
    read h = then_read name_field _ o h (λ m mid o₁ front good h₁. given_read Stands h₁ (λ t. (front, (good, (requestable m).0 t))))

    stand : Stands n rest → requested_name s ≡ Some (n, rest)
    stand h =
        let (front, good) = h in
        then_stand name_field _ o front good.0 (λ o₁. (given_some _ n n rest rest).1 ((requestable n).1 good.1, refl, refl))

-- the X of a good name is a good name
pub good_base : (n : Name) → GoodName n → GoodName (base n)
unfolding base
good_base [] g = g
good_base (l ∷ ls) g = go (is_asterisk l)
  where
    go : (t : Bool) → GoodName (cond t ls (l ∷ ls))
    go true = (All-tail g.0, omega (arith, g.1, length-append l (wire ls)))
    go false = g
