-- By the table and the chains of an accepted book, an owner touches a name exactly when it does so by the rule.
use Rattle.std.specs.Prelude.{None, Option, Some}
use Prim.Native.Nat.{ℕ, zero, suc, ◌+◌, ◌<◌}
use native.Mathlib.Nat.{not-suc-le-zero}
use native.Mathlib.Omega.{arith}
use mathlib.Core.Path.{◌≡◌, refl, sym, ap, ◌∙◌}
use mathlib.Core.Logic.{◌⊎◌, inl, inr, ⊎_elim}
use mathlib.Core.Bool.{Bool, true, false, ◌||◌}
use mathlib.Core.List.{List, [], ◌∷◌, ◌++◌, append-nil}
use lib.ListN.{length, drop}
use borrow.Author.Tests.{eq-eqb, ne_eqb}
use Rattle.spec_limits.specs.Limits.{max_aliases}
use Rattle.spec_refusal.specs.declared.RecordNo.{RecordNo}
use Rattle.spec_octets.specs.Lists.{any}
use Rattle.spec_octets.specs.Octets.{equal_ignoring_case}
use Rattle.spec_octets.proofs.ListLaws.{All-head}
use Rattle.spec_name.specs.Names.{Name, wire, same_name, ancestors, GoodName}
use Rattle.spec_name.proofs.NameLaws.{fewer_labels}
use Rattle.spec_name.proofs.WholeNames.{whole_names}
use Rattle.read_name.proofs.Parents.{root_stays, behind_label, label_passed}
use Rattle.spec_record.specs.Records.{records, book_refusal}
use Rattle.spec_rule.specs.Aliases.{Alias, aliases, aliases_of}
use Rattle.spec_session.specs.Meaning.{targets}
use Rattle.spec_edit.specs.Edits.{touches_from}
use Rattle.book_places.specs.Table.{table_of, is_alias_at}
use Rattle.book_places.specs.Chains.{chains_of}
use Rattle.book_places.specs.Onward.{onward_of}
use Rattle.book_places.proofs.OnwardLaws.{onward_told}
use Rattle.book_places.proofs.ClimbLaws.{good_parent}
use Rattle.edit_places.specs.Reach.{if_found, leads_within, leads_to, touches_at, touched_from, name_touched}
use Rattle.edit_places.specs.Theorems.{TouchedByOffset}
use Rattle.edit_places.proofs.AliasHeads.{First, head_of, head_says, head_within}

-- a name without an alias leads nowhere
no_targets : (n : ℕ) (al : List Alias) (x : Name) → aliases_of al x ≡ [] → targets n al x ≡ []
no_targets zero al x e = refl
no_targets (suc n) al x e = rw e refl

module _ (book : List ℕ) (accepted : book_refusal book ≡ None) (o : Name) (owner-good : GoodName o) where
  abbrev al : List Alias
  al = aliases (records book)

  abbrev within : ℕ → RecordNo → Bool
  within n r = leads_within book (table_of book) (chains_of book).links (onward_of book) (wire o) n r

  -- one of the first n aliases from y on leads to the owner
  abbrev Led : ℕ → Name → Bool
  Led n y = any (same_name o) (targets n al y)

  abbrev Tells : ℕ → Type 0
  Tells n = (y : Name) (good : GoodName y) (r : RecordNo) → head_of book accepted y good ≡ Some r → within n r ≡ Led n y

  -- from the first record of a name on, whatever it is
  from_head : (n : ℕ) → Tells n → (t : Name) (good : GoodName t) (h : Option RecordNo) → head_of book accepted t good ≡ h → if_found h (within n) ≡ Led n t
  from_head n tells t good None e = sym (rw (no_targets n al t (rw e at (head_says book accepted t good))) refl)
  from_head n tells t good (Some q) e = tells t good q e

  leads_told : (n : ℕ) → Tells n
  leads_told zero y good r e = refl
  leads_told (suc n) y good r e = ⊎_elim nothing (aliased (leads_told n)) (rw e at (head_says book accepted y good))
    where
      nothing : (is_alias_at (table_of book) r.0 ≡ false) × (aliases_of al y ≡ []) → within (suc n) r ≡ Led (suc n) y
      nothing (no_alias, none_aliased) = rw (no_alias, none_aliased) refl

      aliased : Tells n → First book (table_of book) r.0 (aliases_of al y) → within (suc n) r ≡ Led (suc n) y
      aliased rest h =
          rw (
            h.is_alias_lem,
            h.stands,
            onward_told book r.0 (head_within book accepted y good r e) h.is_alias_lem,
            h.leads,
            ← whole_names.1 o h.alias.target owner-good h.target_good,
          )
          (ap (◌||◌ (same_name o h.alias.target)) (from_head n rest h.alias.target h.target_good _ refl))

  abbrev touched : List ℕ → Bool
  touched x = touches_at book (table_of book) (chains_of book).links (onward_of book) (wire o) (chains_of book).heads x

  touches_told : (x : Name) → GoodName x → touched (wire x) ≡ touches_from al o x
  unfolding touches_at leads_to touches_from
  touches_told x good =
      rw (← whole_names.1 o x owner-good good)
      (ap (◌||◌ (same_name o x)) (from_head max_aliases (leads_told max_aliases) x good _ refl))

  abbrev climbed : ℕ → List ℕ → ℕ → Bool
  climbed steps s at = touched_from book (table_of book) (chains_of book).links (onward_of book) (wire o) (chains_of book).heads steps s at

  -- with a step for each label and one for the root
  climb :
      (s : List ℕ) (steps at : ℕ) (x : Name) → drop at s ≡ wire x → GoodName x → length x < steps →
      climbed steps s at ≡ any (touches_from al o) (ancestors x)
  climb s zero at x here good h = absurd (not-suc-le-zero h)
  climb s (suc steps) at [] here good h = rw (root_stays s at [] here, eq-eqb at at refl) refl
  climb s (suc steps) at (l ∷ ls) here good h =
      let there : drop at s ≡ wire (l ∷ ls) ++ [] = rw append-nil here in
      let behind : drop (at + 1 + length l) s ≡ wire ls = rw append-nil at (behind_label s at l ls [] there) in
      let rest = climb s steps (at + 1 + length l) ls behind (good_parent l ls good) (omega arith) in
      rw (
        label_passed s at l ls [] there (All-head good.0).0,
        ne_eqb (at + 1 + length l) at (λ z. omega arith),
        here,
        touches_told (l ∷ ls) good,
        rest,
      ) refl

pub touched_by_offset : TouchedByOffset
unfolding name_touched
touched_by_offset book o x accepted owner-good good =
    climb book accepted o owner-good (wire x) (length (wire x)) 0 x refl good (fewer_labels x)
