-- When the call says that a verdict may be left, and when it refuses.
use Rattle.std.proofs.lemmas.Option.{none-some}
use Rattle.std.specs.Prelude.{Option, None, Some}
use Prim.Native.Nat.{ℕ}
use mathlib.Core.Path.{◌≡◌, refl, sym, ◌∙◌}
use mathlib.Core.Logic.Iff
use mathlib.Core.Logic.{◌↔◌, ⊎_elim}
use mathlib.Core.Bool.{Bool, true, false, cond, not, true≢false, false≢true}
use mathlib.Core.List.{List, [], ◌∷◌}
use Rattle.spec_refusal.specs.declared.Refusal.{Refusal}
use Rattle.spec_octets.specs.Lists.{any, All}
use Rattle.spec_octets.specs.Octets.{Octets}
use Rattle.spec_octets.proofs.ListLaws.{any_false, All-imp}
use Rattle.spec_name.specs.Names.{Name, wire, GoodName}
use Rattle.spec_request.specs.Request.{requested_names, request_refusal}
use Rattle.spec_record.specs.Records.{target, records, book_refusal}
use Rattle.spec_record.proofs.AliasLaws.{target_is_its_name}
use Rattle.spec_rule.specs.RelevantSet.{Book, as_book}
use Rattle.spec_rule.specs.Calls.{first_refusal}
use Rattle.spec_rule.proofs.CheckOrder.{checked_at, Keeps, first_row, in_front}
use Rattle.spec_rule.proofs.RefusalLaws.{request_keeps, book_keeps}
use Rattle.spec_edit.specs.declared.Edited.TheVariants.{MayBeLeft, Redo, Refused, BadOwner}
use Rattle.spec_edit.specs.Edits.{touches, may_leave, owner_name, by_owner, edit_checks, edited_or, edited}
use Rattle.spec_edit.specs.Meaning.{Untouched, EditRow, Row17}
use Rattle.spec_edit.specs.Theorems.{EditedExactly, EditRefusals, YesLeaves}
use Rattle.spec_edit.proofs.Touching.{untouched}
use Rattle.spec_edit.proofs.Elsewhere.{edit_elsewhere}

-- the test on all names
not_true : (t : Bool) → (not t ≡ true) ↔ (t ≡ false)
not_true true = (λ e. absurd (false≢true e), λ e. absurd (true≢false e))
not_true false = (λ e. refl, λ e. refl)

may_leave_lem : (book : Book) (o : Name) (ns : List Name) → (may_leave book o ns ≡ true) ↔ All (Untouched book o) ns
unfolding may_leave
may_leave_lem book o ns = (
  λ e. All-imp (λ n. (untouched book o n).0) ((any_false (touches book o) ns).0 ((not_true (any (touches book o) ns)).0 e)),
  λ h. (not_true (any (touches book o) ns)).1 ((any_false (touches book o) ns).1 (All-imp (λ n. (untouched book o n).1) h)),
)

-- an owner is read exactly when it is the wire form of a valid name
owner_read : (owner : List ℕ) (o : Name) → (owner_name owner ≡ Some o) ↔ ((owner ≡ wire o) × GoodName o)
unfolding owner_name target
owner_read owner o = target_is_its_name owner o

no_owner : (owner : List ℕ) → (owner_name owner ≡ None) ↔ Row17 owner
no_owner owner = (λ e o f good. none-some o (sym e ∙ (owner_read owner o).1 (f, good)), go (owner_name owner) refl)
  where
    go : (x : Option Name) → owner_name owner ≡ x → Row17 owner → x ≡ None
    go None e row = refl
    go (Some o) e row = let k = (owner_read owner o).0 e in absurd (row o k.0 k.1)

-- which answer is given
module _ (t : Bool) where
  left : (cond t MayBeLeft Redo ≡ MayBeLeft) ↔ (t ≡ true)
  left = go t
    where
      go : (t : Bool) → (cond t MayBeLeft Redo ≡ MayBeLeft) ↔ (t ≡ true)
      go true = (λ e. refl, λ e. refl)
      go false = (λ e. absurd (true≢false (cc)), λ e. absurd (false≢true e))

  again : (cond t MayBeLeft Redo ≡ Redo) ↔ (t ≡ true → ⊥)
  again = go t
    where
      go : (t : Bool) → (cond t MayBeLeft Redo ≡ Redo) ↔ (t ≡ true → ⊥)
      go true = (λ e. absurd (true≢false (cc)), λ h. absurd (h refl))
      go false = (λ e f. false≢true f, λ h. refl)

pub edited_exactly : EditedExactly
unfolding edited
edited_exactly request book o e f good =
    let law = may_leave_lem (as_book (records book)) o (requested_names request) in
    let t = may_leave (as_book (records book)) o (requested_names request) in
    rw (e, f, (owner_read (wire o) o).1 (refl, good)) (
      Iff.trans (left t) law,
      (λ g all. (again t).0 g (law.1 all), λ h. (again t).1 (λ g. h (law.0 g))),
    )

module _ (book : Book) (ns : List Name) where
  refused : (c : Option Refusal) (x : Option Name) (r : Refusal) → (edited_or c (by_owner book ns x) ≡ Refused r) ↔ (c ≡ Some r)
  refused None None r = (λ e. absurd (true≢false (cc)), λ e. absurd (none-some r e))
  refused None (Some o) r = (λ e. absurd (go (may_leave book o ns) e), λ e. absurd (none-some r e))
    where
      go : (t : Bool) → cond t MayBeLeft Redo ≡ Refused r → ⊥
      go true e = true≢false (cc)
      go false e = true≢false (cc)
  refused (Some q) x r = (λ e. cc, λ e. cc)

  bad_owner : (c : Option Refusal) (x : Option Name) → (edited_or c (by_owner book ns x) ≡ BadOwner) ↔ ((c ≡ None) × (x ≡ None))
  bad_owner None None = (λ e. (refl, refl), λ h. refl)
  bad_owner None (Some o) = (λ e. absurd (go (may_leave book o ns) e), λ h. absurd (none-some o (sym h.1)))
    where
      go : (t : Bool) → cond t MayBeLeft Redo ≡ BadOwner → ⊥
      go true e = true≢false (cc)
      go false e = true≢false (cc)
  bad_owner (Some q) x = (λ e. absurd (true≢false (cc)), λ h. absurd (none-some q (sym h.0)))

  may_be_left :
      (c : Option Refusal) (x : Option Name) → edited_or c (by_owner book ns x) ≡ MayBeLeft →
      (o : Name) × (c ≡ None) × (x ≡ Some o) × (may_leave book o ns ≡ true)
  may_be_left None None e = absurd (true≢false (cc))
  may_be_left None (Some o) e = (o, refl, refl, (left (may_leave book o ns)).0 e)
  may_be_left (Some q) x e = absurd (true≢false (cc))

-- no check refuses exactly when no row holds
no_row :
    {cs : List (Option Refusal)} {rows : Refusal → Type 0} {ns : List ℕ} → Keeps cs rows ns →
    (first_refusal cs ≡ None) ↔ ((r : Refusal) → rows r → ⊥)
no_row {cs} {rows} keeps = (
  λ e r row. ⊎_elim
      (λ f. none-some r (sym e ∙ f))
      (λ (p, f, less). none-some p (sym e ∙ f))
      (keeps.reached r row),
  λ h. go (first_refusal cs) refl h,
)
  where
    go : (c : Option Refusal) → first_refusal cs ≡ c → ((r : Refusal) → rows r → ⊥) → c ≡ None
    go None e h = refl
    go (Some r) e h = absurd (h r (keeps.due r e))

edit_keeps :
    (request book : List ℕ) → Octets request → Octets book →
    Keeps (edit_checks request book) (EditRow request book) (1 ∷ 2 ∷ 3 ∷ 5 ∷ 6 ∷ 7 ∷ 12 ∷ [])
unfolding checked_at
edit_keeps request book o p = in_front (request_keeps request o) (book_keeps book p) refl

pub edit_refusals : EditRefusals
unfolding edited
edit_refusals request book owner o p =
    let keeps = edit_keeps request book o p in
    let c = first_refusal (edit_checks request book) in
    let library = as_book (records book) in (
      λ r. Iff.trans (refused library (requested_names request) c (owner_name owner) r) (first_row keeps r),
      (
        λ e. let (f, g) = (bad_owner library (requested_names request) c (owner_name owner)).0 e in
            ((no_owner owner).0 g, (no_row keeps).0 f),
        λ (row, others). (bad_owner library (requested_names request) c (owner_name owner)).1 ((no_row keeps).1 others, (no_owner owner).1 row),
      ),
    )

-- both checks pass
both_pass : (c d : Option Refusal) → first_refusal (c ∷ d ∷ []) ≡ None → (c ≡ None) × (d ≡ None)
both_pass None None e = (refl, refl)
both_pass None (Some r) e = absurd (none-some r (sym e))
both_pass (Some r) d e = absurd (none-some r (sym e))

pub yes_leaves : YesLeaves
unfolding edited
yes_leaves request old owner e =
    let (o, accepted, f, t) = may_be_left (as_book (records old)) (requested_names request) (first_refusal (edit_checks request old)) (owner_name owner) e in
    let (whole, good) = (owner_read owner o).0 f in
    let passed = both_pass (request_refusal request) (book_refusal old) accepted in (
      o,
      whole,
      good,
      λ new g differ. edit_elsewhere request old new o passed.1 g differ ((may_leave_lem (as_book (records old)) o (requested_names request)).0 t),
    )
