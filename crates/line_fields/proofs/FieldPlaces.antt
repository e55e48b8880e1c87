-- Fields of a line by offsets: a field ends at its first white space, and the next begins after the white space.
use Rattle.std.specs.Prelude.{Option, None, Some}
use Prim.Native.Nat.{ℕ, ◌+◌, ◌-◌, ◌≤◌, ◌<◌}
use native.Mathlib.Omega.{arith}
use mathlib.Core.Path.{◌≡◌, refl, sym, ap, ◌∙◌}
use mathlib.Core.Bool.{Bool, true, false}
use mathlib.Core.List.{List, [], ◌∷◌, ◌++◌, append_assoc}
use lib.ListN.{length, take, drop, length-append, length-drop}
use lib.Seq.{take_at, drop_at, drop-drop}
use Rattle.spec_octets.specs.Octets.{is_blank, trim_start}
use Rattle.spec_octets.proofs.ReaderLaws.{fault_told}
use Rattle.spec_octets.proofs.TrimEnds.{trim_start_takes}
use Rattle.spec_octets.proofs.Walks.{rest_whole}
use Rattle.spec_line.specs.Read.{field}
use Rattle.spec_line.proofs.Fields.{field_apart}
use Rattle.line_fields.specs.declared.FieldAt.{FieldAt}
use Rattle.line_fields.specs.Places.{unblanks, field_end, field_places, field_at}

-- no blank ends it; or one does
no_field : (l : List ℕ) → length l ≤ length (unblanks l) → field l ≡ None
no_field [] h = refl
no_field (x ∷ l) h = go (is_blank x) refl (no_field l) h
  where
    go :
        (t : Bool) → is_blank x ≡ t → (length l ≤ length (unblanks l) → field l ≡ None) →
        length (x ∷ l) ≤ length (unblanks (x ∷ l)) → field (x ∷ l) ≡ None
    go true e ih h = let k = rw e at h in absurd (omega arith)
    go false e ih h = let k = rw e at h in rw (e, ih (omega arith))

a_field :
    (l : List ℕ) → length (unblanks l) < length l →
    field l ≡ Some (unblanks l, trim_start (drop (length (unblanks l)) l))
a_field [] h = absurd (omega arith)
a_field (x ∷ l) h = go (is_blank x) refl (a_field l) h
  where
    go :
        (t : Bool) → is_blank x ≡ t →
        (length (unblanks l) < length l → field l ≡ Some (unblanks l, trim_start (drop (length (unblanks l)) l))) →
        length (unblanks (x ∷ l)) < length (x ∷ l) →
        field (x ∷ l) ≡ Some (unblanks (x ∷ l), trim_start (drop (length (unblanks (x ∷ l))) (x ∷ l)))
    go true e ih h = rw (e, e)
    go false e ih h = let k = rw e at h in rw (e, ih (omega arith))

module _ (s : List ℕ) (at e : ℕ) (ends : e ≡ field_end s at) where
  abbrev lead : ℕ
  lead = length (unblanks (drop at s))

  pub field_open : length s ≤ e → None ≡ field_at s at
  unfolding field_end field_at
  field_open h = rw (no_field (drop at s) (omega (arith, length-drop at s)))

  module _ (h : e < length s) where
    -- what follows its blanks
    pub rest_inside : (rest : List ℕ) → rest ≡ trim_start (take (length s - e) (drop e s)) → length rest ≤ length s
    rest_inside rest trimmed =
        let (b, apart, blank) = trim_start_takes (drop e s) in
        rw (trimmed, rest_whole s e) (omega (arith, ap length apart, length-append b (trim_start (drop e s)), length-drop e s))

    pub field_closed :
        (rest : List ℕ) → rest ≡ trim_start (take (length s - e) (drop e s)) → (n : ℕ) → n ≡ length s - length rest →
        Some (record { end = e; next = n }) ≡ field_at s at
    unfolding field_end field_at
    field_closed rest trimmed n next =
        rw (a_field (drop at s) (omega (arith, length-drop at s)), drop-drop lead at s, ← ends, next, trimmed, rest_whole s e)

-- what the places of a field say of it
module _ (s : List ℕ) (at : ℕ) where
  -- a field stands at the place, and what follows its blanks is the end of s
  pub record FieldParts (f rest : List ℕ) : Type 0 where
    pub piece : take (at + length f - at) (drop at s) ≡ f
    pub behind : drop (length s - length rest) s ≡ rest
    pub inside : at + length f ≤ length s

  pub field_parts : (f rest : List ℕ) → field (drop at s) ≡ Some (f, rest) → FieldParts f rest
  field_parts f rest h =
      let (b, front, clean, blanks, n) = (field_apart (drop at s) f rest).0 h in
      let (x, more, e, one, many) = blanks in
      go b front (omega (arith, ap length e, ap length one.1, length-append x more))
    where
      go : (b : List ℕ) → drop at s ≡ f ++ (b ++ rest) → 1 ≤ length b → FieldParts f rest
      go b front full =
          let whole : length s - at ≡ length f + (length b + length rest) = sym (length-drop at s) ∙ rw (front, length-append, length-append) in
          let place : length s - length rest ≡ at + (length f + length b) = omega arith in
          record {
            piece = rw front (take_at f (b ++ rest) (at + length f - at) (omega arith));
            behind =
                rw (place, ← drop-drop (length f + length b) at s, front, ← append_assoc)
                (drop_at (f ++ b) rest (length f + length b) (length-append f b));
            inside = omega arith;
          }

  pub record FieldTo (p : FieldAt) : Type 0 where
    pub found : field (drop at s) ≡ Some (take (p.end - at) (drop at s), drop p.next s)
    pub starts : at ≤ p.end
    pub inside : p.end ≤ length s
    pub onward : p.next ≤ length s

  field_to : (f rest : List ℕ) → field (drop at s) ≡ Some (f, rest) → FieldTo (record { end = at + length f; next = length s - length rest })
  field_to f rest h =
      let k = field_parts f rest h in
      record { found = h ∙ rw (k.piece, k.behind); starts = omega arith; inside = k.inside; onward = omega arith }

  -- a caller of read_field knows its answer o
  module _ (o : Option FieldAt) (told : o ≡ field_at s at) where
    pub field_there : (p : FieldAt) → o ≡ Some p → FieldTo p
    unfolding field_at
    field_there p g = go (field (drop at s)) refl (sym told ∙ g)
      where
        go : (q : Option (List ℕ × List ℕ)) → field (drop at s) ≡ q → field_places s at q ≡ Some p → FieldTo p
        go None h k = let z : ◌≡◌ {A = ℕ} 0 1 = cc in absurd (omega arith)
        go (Some r) h k =
            let same : record { end = at + length r.0; next = length s - length r.1 } ≡ p = cc in
            rw same at (field_to r.0 r.1 h)

    pub field_missing : o ≡ None → field (drop at s) ≡ None
    unfolding field_at
    field_missing g =
        (fault_told (field_places s at) (field (drop at s)) (λ r e. let z : ◌≡◌ {A = ℕ} 0 1 = cc in omega arith)).0 (sym told ∙ g)

    pub field_starts : (p : FieldAt) → o ≡ Some p → at ≤ p.end
    field_starts p g = (field_there p g).starts

    pub field_inside : (p : FieldAt) → o ≡ Some p → p.end ≤ length s
    field_inside p g = (field_there p g).inside
