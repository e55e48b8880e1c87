-- Numbers each once: those that are left, behind those put at the front, give the same firsts in the end.
use Prim.Native.Nat.{ℕ, ◌+◌, ◌-◌, ◌*◌, ◌≤◌, ◌<◌}
use native.Mathlib.Omega.{arith}
use native.Mathlib.Numerals.{add-one}
use mathlib.Core.Path.{◌≡◌, refl, sym, ap, ◌∙◌}
use mathlib.Core.Bool.{Bool, true, false}
use mathlib.Core.List.{List, [], ◌∷◌, ◌++◌, append-nil, append_assoc}
use lib.ListN.{length, drop, get_or, set, replicate, length-set, length-replicate, drop_of_length-le, get_or-eq_default}
use lib.Seq.{drop-cons, get_or-drop, drop-append_seam, set_out}
use Rattle.spec_limits.specs.Limits.{max_records}
use Rattle.spec_octets.specs.Buffer.{Put}
use Rattle.text_buffer.proofs.LentRest.{put_nothing, put_octet}
use Rattle.list_places.specs.Questions.{once_behind, once}

-- the array was d
module _ (d : List ℕ) where
  pub record Asking (numbers : List ℕ) (asked : List Bool) (w i : ℕ) : Type 0 where
    pub before : List ℕ
    pub put : Put before d numbers w
    pub left : once d ≡ before ++ once_behind asked (drop i d)
    pub few : w ≤ i
    pub long : length asked ≡ 2 * max_records
    pub same_length : length numbers ≡ length d

  pub ask_start : Asking d (replicate (2 * max_records) false) 0 0
  unfolding once
  ask_start = record {
    before = [];
    put = put_nothing d;
    left = refl;
    few = omega arith;
    long = length-replicate {A = Bool} (2 * max_records) false;
    same_length = refl;
  }

  module _ (numbers : List ℕ) (asked : List Bool) (w i : ℕ) (m : Asking numbers asked w i) where
    pub ask_length : length numbers ≡ length d
    ask_length = m.same_length

    -- nothing is left
    module _ (h : length numbers ≤ i) where
      over : once d ≡ m.before
      over = m.left ∙ rw (drop_of_length-le d {i = i} (omega (arith, m.same_length))) (append-nil m.before)

      pub done_answer : w ≡ length (once d)
      done_answer = m.put.count ∙ ap length (sym over)

      pub done_numbers : numbers ≡ once d ++ drop (length (once d)) d
      done_numbers = rw over m.put.octets

    module _ (k : i < length numbers) where
      -- what is read was not written
      unread : get_or numbers i 0 ≡ get_or d i 0
      unread =
          let rest : drop w numbers ≡ drop w d = rw (m.put.octets, m.put.count) (drop-append_seam m.before (drop (length m.before) d)) in
          let at : w + (i - w) ≡ i = omega (arith, m.few) in
          sym (rw at at (get_or-drop w numbers (i - w) 0)) ∙ ap (λ l. get_or l (i - w) 0) rest ∙ rw at at (get_or-drop w d (i - w) 0)

      next : drop i d ≡ get_or numbers i 0 ∷ drop (i + 1) d
      next = rw (add-one i, unread) (drop-cons d i 0 (omega (arith, m.same_length)))

      pub known : get_or asked (get_or numbers i 0) false ≡ true → Asking numbers asked w (i + 1)
      known e = record {
        before = m.before;
        put = m.put;
        left = m.left ∙ rw (next, e);
        few = omega (arith, m.few);
        long = m.long;
        same_length = m.same_length;
      }

      new :
          get_or asked (get_or numbers i 0) false ≡ false → (asked' : List Bool) → asked' ≡ set asked (get_or numbers i 0) true → length asked' ≡ 2 * max_records →
          Asking (set numbers w (get_or numbers i 0)) asked' (w + 1) (i + 1)
      new e asked' f l = record {
        before = m.before ++ (get_or numbers i 0 ∷ []);
        put = put_octet m.put (get_or numbers i 0) (m.before ++ (get_or numbers i 0 ∷ [])) (omega (arith, m.few)) refl;
        left = m.left ∙ rw (next, e, f) (sym (append_assoc m.before (get_or numbers i 0 ∷ []) (once_behind (set asked (get_or numbers i 0) true) (drop (i + 1) d))));
        few = omega (arith, m.few);
        long = l;
        same_length = length-set numbers w (get_or numbers i 0) ∙ m.same_length;
      }

      pub first_time :
          get_or asked (get_or numbers i 0) false ≡ false → (asked' : List Bool) → asked' ≡ set asked (get_or numbers i 0) true →
          Asking (set numbers w (get_or numbers i 0)) asked' (w + 1) (i + 1)
      first_time e asked' f = new e asked' f (ap length f ∙ length-set asked (get_or numbers i 0) true ∙ m.long)

      pub no_place :
          2 * max_records ≤ get_or numbers i 0 → (asked' : List Bool) → asked' ≡ asked → Asking (set numbers w (get_or numbers i 0)) asked' (w + 1) (i + 1)
      no_place e asked' f =
          new
          (get_or-eq_default asked false {n = get_or numbers i 0} (rw m.long e))
          asked'
          (f ∙ sym (set_out asked (get_or numbers i 0) true (rw m.long e)))
          (ap length f ∙ m.long)
