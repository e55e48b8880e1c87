-- A request is accepted with its names, or refused by one row of the table.
use Rattle.std.specs.Prelude.{None, Some}
use Prim.Native.Nat.{ℕ, ◌≤◌}
use native.Mathlib.Omega.{arith}
use mathlib.Core.Path.{◌≡◌, refl, ap, sym, ◌∙◌}
use mathlib.Core.Logic.{◌↔◌, ◌⊎◌, inl, inr}
use mathlib.Core.List.{List, [], ◌∷◌, map, cons≢nil}
use lib.ListN.{length}
use Rattle.spec_limits.specs.Limits.{max_request_octets, max_names}
use Rattle.spec_refusal.specs.Refusal.{number, place}
use Rattle.spec_refusal.specs.declared.Refusal.{Refusal}
use Rattle.spec_refusal.specs.declared.Refusal.TheVariants.{RequestTooLong, BadName, TooManyNames}
use Rattle.spec_octets.specs.Lists.{All, all_nil, flatten}
use Rattle.spec_octets.specs.Octets.{Octets}
use Rattle.spec_octets.specs.Items.{Items, whole, broken, over, whole_items}
use Rattle.spec_octets.specs.Theorems.{ItemsAreRead}
use Rattle.spec_octets.proofs.ItemLaws.{items_end_to_end}
use Rattle.spec_octets.proofs.ItemRefusals.{Rows, refusal_of, one_of_three, acceptance, refusals}
use Rattle.spec_name.specs.Names.{Name, wire}
use Rattle.spec_name.proofs.NameField.{wire_full}
use Rattle.spec_request.specs.Request.{requested_name, name_items, requested_names, name_refusal, request_refusal, GoodRequested}
use Rattle.spec_request.specs.Theorems.{RequestIsItsNames, Row2, Row3, RequestRefusals}
use Rattle.spec_request.proofs.RequestedNames.{requested_name_is_its_labels}

items_read : ItemsAreRead requested_name wire GoodRequested
items_read = items_end_to_end Name requested_name wire GoodRequested requested_name_is_its_labels wire_full

rows : Rows name_refusal number 1 RequestTooLong (λ k. BadName (record { 0 = k })) TooManyNames
unfolding number place
rows = record { accepts = λ ns. refl; breaks = λ k. refl; exceeds = refl; first = refl; second = λ k. refl; third = refl; one = λ e. ap place e }

-- what a request is read as: where it is empty, its first name can't be read
abbrev asked : List ℕ → Items Name
asked [] = broken 0
asked (x ∷ s) = name_items (x ∷ s)

asked_refusal : (s : List ℕ) → request_refusal s ≡ refusal_of rows max_request_octets s (asked s)
unfolding request_refusal
asked_refusal [] = refl
asked_refusal (x ∷ s) = refl

-- nothing is read as no names
none_read : name_items [] ≡ whole []
unfolding name_items
none_read = ((items_read max_names [] all_nil).0 []).1 (refl, all_nil, omega arith)

asked_names : (s : List ℕ) → requested_names s ≡ whole_items (asked s)
unfolding requested_names
asked_names [] = rw none_read
asked_names (x ∷ s) = refl

abbrev Names : List ℕ → List Name → Type 0
Names s ns = (s ≡ flatten (map wire ns)) × All GoodRequested ns × (1 ≤ length ns) × (length ns ≤ max_names)

some_name : (x : ℕ) (s : List ℕ) (ns : List Name) → x ∷ s ≡ flatten (map wire ns) → 1 ≤ length ns
some_name x s [] e = absurd (cons≢nil e)
some_name x s (n ∷ ns) e = omega arith

asked_whole : (s : List ℕ) → Octets s → (ns : List Name) → (asked s ≡ whole ns) ↔ Names s ns
unfolding name_items
asked_whole [] o ns = (
  λ e. let z : ◌≡◌ {A = ℕ} 0 1 = cc in absurd (omega arith),
  λ h. let w = ((items_read max_names [] o).0 ns).1 (h.0, h.1, h.3) in let z : length ns ≡ 0 = cc none_read in absurd (omega arith),
)
asked_whole (x ∷ s) o ns =
    let law = (items_read max_names (x ∷ s) o).0 ns in (
      λ e. let (e, good, high) = law.0 e in (e, good, some_name x s ns e, high),
      λ h. law.1 (h.0, h.1, h.3),
    )

asked_broken : (s : List ℕ) → Octets s → (k : ℕ) → (asked s ≡ broken k) ↔ Row2 s k
unfolding name_items
asked_broken [] o k = (λ e. inl (refl, cc), back)
  where
    back : Row2 [] k → asked [] ≡ broken k
    back (inl h) = ap broken (sym h.1)
    back (inr h) = let e = ((items_read max_names [] o).1 k).1 h in cc none_read
asked_broken (x ∷ s) o k = (λ e. inr (((items_read max_names (x ∷ s) o).1 k).0 e), back)
  where
    back : Row2 (x ∷ s) k → asked (x ∷ s) ≡ broken k
    back (inl h) = absurd (cons≢nil h.0)
    back (inr h) = ((items_read max_names (x ∷ s) o).1 k).1 h

asked_over : (s : List ℕ) → Octets s → (asked s ≡ over) ↔ Row3 s
unfolding name_items
asked_over [] o = (λ e. let z : ◌≡◌ {A = ℕ} 0 1 = cc in absurd (omega arith), λ h. let e = (items_read max_names [] o).2.1 h in cc none_read)
asked_over (x ∷ s) o = (items_read max_names (x ∷ s) o).2

pub request_is_its_names : RequestIsItsNames
request_is_its_names s o ns = rw (asked_refusal s, asked_names s) (
  λ h. let (w, l) = law.0 h in (w.0, w.1, w.2, w.3, l),
  λ h. law.1 ((h.0, h.1, h.2, h.3), h.4),
)
  where
    law : ((refusal_of rows max_request_octets s (asked s) ≡ None) × (whole_items (asked s) ≡ ns)) ↔ (Names s ns × (length s ≤ max_request_octets))
    law = acceptance rows max_request_octets s (asked s) whole_items (λ ns. refl) (asked_whole s o) ns

pub request_refusals : RequestRefusals
request_refusals s o =
    let (row_1, row_2, row_3, numbers) = refusals rows max_request_octets s (asked s) (asked_broken s o) (asked_over s o) in
    rw (asked_refusal s) (row_1, row_2, row_3, λ r e. (numbers r e).1)

-- no other refusal is given
pub request_faults :
    (s : List ℕ) (r : Refusal) → request_refusal s ≡ Some r →
    (r ≡ RequestTooLong) ⊎ ((k : ℕ) × (r ≡ BadName (record { 0 = k }))) ⊎ (r ≡ TooManyNames)
request_faults s r e = one_of_three rows max_request_octets s (asked s) r (sym (asked_refusal s) ∙ e)
