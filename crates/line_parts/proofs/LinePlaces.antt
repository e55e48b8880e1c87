-- A line by offsets: a law of line_at for each return of read_fields, and what the offsets say about the property read.
use Rattle.std.specs.Prelude.{Option, None, Some}
use Prim.Native.Nat.{ℕ, ◌+◌, ◌-◌, ◌≤◌}
use native.Mathlib.Nat.{sub-zero}
use native.Mathlib.Omega.{arith}
use mathlib.Core.Path.{◌≡◌, refl, sym, ◌∙◌}
use mathlib.Core.Bool.{Bool, true, false, cond}
use mathlib.Core.List.{List}
use lib.ListN.{length, take, drop, length-drop}
use lib.Seq.{length-take-le}
use Rattle.spec_octets.specs.Decimal.{decimal_octet}
use Rattle.spec_octets.specs.Reader.{if_read}
use Rattle.spec_line.specs.Read.{field, is_line_tag, line_value, property_of, read_line}
use Rattle.text_decimal.specs.Places.{decimal_in}
use Rattle.text_decimal.proofs.DecimalWalk.{octet_there, octet_missing}
use Rattle.line_fields.specs.declared.FieldAt.{FieldAt}
use Rattle.line_fields.specs.Places.{field_at}
use Rattle.line_fields.proofs.FieldPlaces.{FieldTo, field_parts, field_there, field_missing}
use Rattle.line_parts.specs.declared.LineAt.{LineAt}
use Rattle.line_parts.specs.Places.{line_places, line_at}

module _ (s : List ℕ) where
  -- no flags, no line
  no_flags : (o : Option (List ℕ × List ℕ)) (s₁ : List ℕ) → if_read None o (λ t s₂. line_places s None s₁ t s₂) ≡ None
  no_flags None s₁ = refl
  no_flags (Some r) s₁ = refl

  pub no_first_field : None ≡ field_at s 0 → None ≡ line_at s
  unfolding line_at
  no_first_field told = rw (field_missing s 0 None told refl)

  module _ (f : FieldAt) (told₁ : Some f ≡ field_at s 0) where
    flags_field : field s ≡ Some (take f.end s, drop f.next s)
    flags_field = rw sub-zero at (field_there s 0 (Some f) told₁ f refl).found

    pub wrong_flags : None ≡ decimal_in (take f.end s) → None ≡ line_at s
    unfolding line_at
    wrong_flags read =
        rw (flags_field, octet_missing (take f.end s) None read refl, no_flags (field (drop f.next s)) (drop f.next s))

    module _ (n : ℕ) (read : Some n ≡ decimal_in (take f.end s)) where
      pub no_second_field : None ≡ field_at s f.next → None ≡ line_at s
      unfolding line_at
      no_second_field told₂ = rw (flags_field, field_missing s f.next None told₂ refl)

      module _ (t : FieldAt) (told₂ : Some t ≡ field_at s f.next) (r : Bool) (checked : r ≡ is_line_tag (take (t.end - f.next) (drop f.next s))) where
        pub wrong_tag : r ≡ false → None ≡ line_at s
        unfolding line_at
        wrong_tag e =
            let k = field_there s f.next (Some t) told₂ t refl in
            rw (flags_field, k.found, octet_there (take f.end s) (Some n) read n refl, ← checked, e)

        pub line_there : r ≡ true → Some (record { flags = n; tag = f.next; end = t.end; value = t.next }) ≡ line_at s
        unfolding line_at
        line_there e = sym (go (field_there s 0 (Some f) told₁ f refl) (field_there s f.next (Some t) told₂ t refl))
          where
            go : FieldTo s 0 f → FieldTo s f.next t → line_at s ≡ Some (record { flags = n; tag = f.next; end = t.end; value = t.next })
            go j k =
                let before : length s - length (drop f.next s) ≡ f.next = omega (arith, length-drop f.next s, j.onward) in
                let behind : length s - length (drop t.next s) ≡ t.next = omega (arith, length-drop t.next s, k.onward) in
                let long : length (take (t.end - f.next) (drop f.next s)) ≡ t.end - f.next =
                length-take-le (t.end - f.next) (drop f.next s) (omega (arith, length-drop f.next s, k.inside)) in
                let to : f.next + (t.end - f.next) ≡ t.end = omega (arith, k.starts) in
                rw (flags_field, k.found, octet_there (take f.end s) (Some n) read n refl, ← checked, e, before, behind, long, to)

-- what the places of a line say of it
module _ (s : List ℕ) where
  pub record LineTo (l : LineAt) : Type 0 where
    pub read :
        read_line s ≡ property_of (Some l.flags) (take (l.end - l.tag) (drop l.tag s)) (line_value (drop l.value s))
    pub tag : is_line_tag (take (l.end - l.tag) (drop l.tag s)) ≡ true
    pub starts : l.tag ≤ l.end
    pub inside : l.end ≤ length s
    pub behind : l.value ≤ length s

  line_to :
      (f s₁ t s₂ : List ℕ) (n : ℕ) → field s ≡ Some (f, s₁) → field s₁ ≡ Some (t, s₂) → decimal_octet f ≡ Some n → is_line_tag t ≡ true →
      LineTo (record { flags = n; tag = length s - length s₁; end = length s - length s₁ + length t; value = length s - length s₂ })
  unfolding read_line
  line_to f s₁ t s₂ n h₁ h₂ d good =
      let first = field_parts s 0 f s₁ h₁ in
      let second = field_parts s (length s - length s₁) t s₂ (rw first.behind h₂) in
      record {
        read = rw (h₁, h₂, d, second.piece, second.behind);
        tag = rw second.piece good;
        starts = omega arith;
        inside = second.inside;
        behind = omega arith;
      }

  -- a caller of read_fields knows its answer o
  module _ (o : Option LineAt) (told : o ≡ line_at s) where
    pub line_found : (l : LineAt) → o ≡ Some l → LineTo l
    unfolding line_at
    line_found l g = first (field s) refl (sym told ∙ g)
      where
        tagged :
            (f s₁ t s₂ : List ℕ) (n : ℕ) → field s ≡ Some (f, s₁) → field s₁ ≡ Some (t, s₂) → decimal_octet f ≡ Some n → (b : Bool) → is_line_tag t ≡ b →
            cond {A = Option LineAt} b (Some (record { flags = n; tag = length s - length s₁; end = length s - length s₁ + length t; value = length s - length s₂ })) None ≡ Some l →
            LineTo l
        tagged f s₁ t s₂ n h₁ h₂ d true e k =
            let same : record { flags = n; tag = length s - length s₁; end = length s - length s₁ + length t; value = length s - length s₂ } ≡ l = cc in
            rw same at (line_to f s₁ t s₂ n h₁ h₂ d e)
        tagged f s₁ t s₂ n h₁ h₂ d false e k = let z : ◌≡◌ {A = ℕ} 0 1 = cc in absurd (omega arith)

        flagged :
            (f s₁ t s₂ : List ℕ) → field s ≡ Some (f, s₁) → field s₁ ≡ Some (t, s₂) → (q : Option ℕ) → decimal_octet f ≡ q →
            line_places s q s₁ t s₂ ≡ Some l → LineTo l
        flagged f s₁ t s₂ h₁ h₂ None d k = let z : ◌≡◌ {A = ℕ} 0 1 = cc in absurd (omega arith)
        flagged f s₁ t s₂ h₁ h₂ (Some n) d k = tagged f s₁ t s₂ n h₁ h₂ d (is_line_tag t) refl k

        second :
            (f s₁ : List ℕ) → field s ≡ Some (f, s₁) → (q : Option (List ℕ × List ℕ)) → field s₁ ≡ q →
            if_read None q (λ t s₂. line_places s (decimal_octet f) s₁ t s₂) ≡ Some l → LineTo l
        second f s₁ h₁ None h₂ k = let z : ◌≡◌ {A = ℕ} 0 1 = cc in absurd (omega arith)
        second f s₁ h₁ (Some r) h₂ k = flagged f s₁ r.0 r.1 h₁ h₂ (decimal_octet f) refl k

        first :
            (q : Option (List ℕ × List ℕ)) → field s ≡ q →
            if_read None q (λ f s₁. if_read None (field s₁) (λ t s₂. line_places s (decimal_octet f) s₁ t s₂)) ≡ Some l → LineTo l
        first None h k = let z : ◌≡◌ {A = ℕ} 0 1 = cc in absurd (omega arith)
        first (Some r) h k = second r.0 r.1 h (field r.1) refl k

    pub no_line : o ≡ None → read_line s ≡ None
    unfolding line_at read_line
    no_line g = first (field s) (sym told ∙ g)
      where
        tagged :
            (s₁ t s₂ : List ℕ) (n : ℕ) (b : Bool) (w : Option (List ℕ)) → is_line_tag t ≡ b →
            cond {A = Option LineAt} b (Some (record { flags = n; tag = length s - length s₁; end = length s - length s₁ + length t; value = length s - length s₂ })) None ≡ None →
            property_of (Some n) t w ≡ None
        tagged s₁ t s₂ n true w e k = let z : ◌≡◌ {A = ℕ} 0 1 = cc in absurd (omega arith)
        tagged s₁ t s₂ n false None e k = refl
        tagged s₁ t s₂ n false (Some v) e k = rw e

        flagged : (q : Option ℕ) (s₁ t s₂ : List ℕ) → line_places s q s₁ t s₂ ≡ None → property_of q t (line_value s₂) ≡ None
        flagged None s₁ t s₂ k = refl
        flagged (Some n) s₁ t s₂ k = tagged s₁ t s₂ n (is_line_tag t) (line_value s₂) refl k

        second :
            (f s₁ : List ℕ) (q : Option (List ℕ × List ℕ)) → if_read None q (λ t s₂. line_places s (decimal_octet f) s₁ t s₂) ≡ None →
            if_read None q (λ t s₂. property_of (decimal_octet f) t (line_value s₂)) ≡ None
        second f s₁ None k = refl
        second f s₁ (Some r) k = flagged (decimal_octet f) s₁ r.0 r.1 k

        first :
            (q : Option (List ℕ × List ℕ)) → if_read None q (λ f s₁. if_read None (field s₁) (λ t s₂. line_places s (decimal_octet f) s₁ t s₂)) ≡ None →
            if_read None q (λ f s₁. if_read None (field s₁) (λ t s₂. property_of (decimal_octet f) t (line_value s₂))) ≡ None
        first None k = refl
        first (Some r) k = second r.0 r.1 (field r.1) k
