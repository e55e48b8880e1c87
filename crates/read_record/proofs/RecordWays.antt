-- A law for each return of read_record_fields, of read_record, of is_target and of is_laid_out.
use Rattle.std.proofs.lemmas.Option.{none-some}
use Rattle.std.specs.Option.{option_eq}
use Rattle.std.specs.Prelude.{Some, Option, None}
use Prim.Native.Nat.{ℕ, ◌≤◌, ◌<◌, ◌+◌, ◌-◌}
use native.Mathlib.Omega.{arith}
use mathlib.Core.Path.{◌≡◌, refl, sym, subst, ◌∙◌}
use mathlib.Core.Bool.{Bool, not, true, false, true≢false, and-true}
use mathlib.Core.List.{List, [], ◌∷◌}
use lib.Dec.{eqb}
use lib.ListN.{length, take, drop, length-drop}
use borrow.Author.Tests.{not-true, not-false, eq-eqb, ne_eqb}
use Rattle.spec_octets.specs.Reader.{value_from}
use Rattle.spec_octets.proofs.ReaderLaws.{nothing_found, pure_some}
use Rattle.spec_name.specs.Names.{Name}
use Rattle.read_name.specs.Places.{name_end}
use Rattle.read_name.proofs.PlaceLaws.{name_faults, name_there}
use Rattle.read_record.specs.declared.RecordAt.{RecordAt}
use Rattle.spec_record.specs.Property.{property}
use Rattle.spec_record.specs.Records.{Record, is_caa, is_alias, filling, target, is_some, is_caa_data, is_laid_out, resource_record}
use Rattle.spec_record.proofs.KindLaws.{caa_no_alias}
use Rattle.read_record.specs.Places.{record_fields, fields_at, record_at}
use Rattle.read_record.proofs.RecordFields.{record_from, places_from, Whole, fields_read}
use Rattle.read_record.proofs.FieldsAndData.{fields_and_data}
use Rattle.read_record.proofs.RecordPlaces.{RecordTo, fields_at_lem, record_to, fields_faults, record_faults, no_fields, fields_there}

-- is_target
module _ (d : List ℕ) (o : Option ℕ) (f : o ≡ name_end d 0) where
  no_target : o ≡ None → false ≡ is_some (target d)
  unfolding target
  no_target g = rw ((name_faults d 0).0 (cc))

  target_there : (e : ℕ) → o ≡ Some e → (r : Bool) → r ≡ eqb e (length d) → r ≡ is_some (target d)
  unfolding target
  target_there e g r h = let (n, k) = name_there d 0 o e f g in rw (k.found, h) (go n (drop e d) (length-drop e d) k.inside)
    where
      go : (n : Name) (rest : List ℕ) → length rest ≡ length d - e → e ≤ length d → eqb e (length d) ≡ is_some (filling (Some (n, rest)))
      go n [] l i = eq-eqb e (length d) (omega arith)
      go n (x ∷ s) l i = ne_eqb e (length d) (omega arith)

compared : (d : List ℕ) (o : Option ℕ) → o ≡ name_end d 0 → option_eq eqb o (Some (length d)) ≡ is_some (target d)
compared d None f = no_target d None f refl
compared d (Some e) f = target_there d (Some e) f e refl (eqb e (length d)) refl

pub filled : (d : List ℕ) (o : Option ℕ) → o ≡ name_end d 0 → (r : Bool) → r ≡ option_eq eqb o (Some (length d)) → r ≡ is_some (target d)
filled d o f r e = e ∙ compared d o f

-- is_laid_out: data of the types that are checked, and any other
module _ (type class : ℕ) (d : List ℕ) (b : Bool) (e : b ≡ is_caa type class) where
  pub laid_out_as_caa : (r : Bool) → b ≡ true → r ≡ is_caa_data (property d) → r ≡ is_laid_out type class d
  unfolding is_laid_out
  laid_out_as_caa r t h = rw (caa_no_alias type class (sym e ∙ t), ← e, t, and-true) h

  module _ (a : Bool) (f : a ≡ is_alias type class) (n : b ≡ false) where
    pub laid_out_as_alias : (r : Bool) → a ≡ true → r ≡ is_some (target d) → r ≡ is_laid_out type class d
    unfolding is_laid_out
    laid_out_as_alias r t h = rw (← e, n, ← f, t) h

    pub laid_out_anyhow : a ≡ false → true ≡ is_laid_out type class d
    unfolding is_laid_out
    laid_out_anyhow t = rw (← e, n, ← f, t)

-- read_record_fields
module _ (s : List ℕ) (at : ℕ) (o : Option ℕ) (f : o ≡ name_end s at) where
  pub owner_fault : o ≡ None → None ≡ fields_at s at
  unfolding record_fields
  owner_fault g = sym ((fields_faults s at).1 (rw ((name_faults s at).0 (cc))))

  module _ (e : ℕ) (g : o ≡ Some e) where
    -- what is not whole is not read
    unread : (Whole s e → ⊥) → None ≡ fields_at s at
    unread bad =
        let (m, k) = name_there s at o e f g in
        sym ((fields_faults s at).1 (nothing_found (record_fields (drop at s)) (λ x h. bad (fields_read s at m e k x.0 x.1 h).0)))

    pub fields_cut_off : length s - e < 10 → None ≡ fields_at s at
    fields_cut_off h = unread (λ w. omega (arith, w.fixed))

    module _ (n : ℕ) (l : n ≡ value_from 0 (take 2 (drop (e + 8) s))) where
      pub data_cut_off : length s - (e + 10) < n → None ≡ fields_at s at
      data_cut_off h = unread (λ w. omega (arith, w.data_fits))

      pub fields_whole :
          (type class : ℕ) → type ≡ value_from 0 (take 2 (drop e s)) → class ≡ value_from 0 (take 2 (drop (e + 2) s)) → 10 ≤ length s - e →
          n ≤ length s - (e + 10) →
          Some (record { owner_end = e; rtype = type; class = class; rdata = e + 10; next = e + 10 + n }) ≡ fields_at s at
      fields_whole type class t c h i =
          let (m, k) = name_there s at o e f g in
          let w : Whole s e = record { fixed = h; data_fits = rw (← l) i } in
          rw (l, t, c) (sym (fields_at_lem s at (places_from s e) (record_from s m e) (record_to s at m e k w)))

-- read_record
module _ (s : List ℕ) (at : ℕ) (o : Option RecordAt) (f : o ≡ fields_at s at) where
  pub no_fields_no_record : o ≡ None → None ≡ record_at s at
  no_fields_no_record g =
      sym ((record_faults s at).1 (nothing_found (resource_record (drop at s)) (λ x h.
      let z = sym (no_fields s at o f g) ∙ ((fields_and_data (drop at s) x.0 x.1).0 h).0 in none-some _ z)))

  module _ (p : RecordAt) (g : o ≡ Some p) (b : Bool) (d : b ≡ is_laid_out p.rtype p.class (take (p.next - p.rdata) (drop p.rdata s))) where
    layout : (r : Record) → RecordTo s at p r → b ≡ is_laid_out r.type r.class r.rdata
    layout r t = rw (← t.type, ← t.class, ← t.rdata) d

    pub wrong_data : not b ≡ true → None ≡ record_at s at
    wrong_data h = let (r, t) = fields_there s at o f p g in by r t
      where
        by : (r : Record) → RecordTo s at p r → None ≡ record_at s at
        by r t = sym ((record_faults s at).1 (nothing_found (resource_record (drop at s)) (λ x k.
            let (e, good) = (fields_and_data (drop at s) x.0 x.1).0 k in
            let same : r ≡ x.0 = ((pure_some r x.0 (drop p.next s) x.1).0 (sym t.found ∙ e)).0 in
            true≢false (sym good ∙ subst (λ (q : Record). is_laid_out q.type q.class q.rdata ≡ false) same (sym (layout r t) ∙ not-true b h)))))

    pub record_read : not b ≡ false → Some p ≡ record_at s at
    unfolding fields_at record_at
    record_read h =
        let (r, t) = fields_there s at o f p g in
        let e = (fields_and_data (drop at s) r (drop p.next s)).1 (t.found, sym (layout r t) ∙ not-false b h) in
        sym g ∙ f ∙ rw (t.found, e)
