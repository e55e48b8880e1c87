-- The entries of the candidates of one round, measured and put one by one.
use Prim.Native.Nat.{ℕ, suc, ◌+◌, ◌*◌, ◌-◌, ◌≤◌, ◌<◌, ◌^◌, min}
use native.Mathlib.Omega.{arith}
use mathlib.Core.Path.{◌≡◌, refl, ap, ◌∙◌}
use mathlib.Core.List.{List, [], ◌∷◌, ◌++◌, append_assoc, append-nil}
use lib.Dec.{eqb}
use lib.ListN.{length, take, drop, set, get_or, length-append, length-map, length-set}
use mir.Syntax.{w64}
use mir.Val.{Fits}
use borrow.Author.Tests.{le-ltb, eq-eqb, ne_eqb}
use Rattle.spec_limits.specs.Limits.{max_records}
use Rattle.spec_octets.specs.Lists.{cons_if}
use Rattle.spec_octets.specs.Octets.{lower, lowered}
use Rattle.spec_octets.specs.Buffer.{Put, filled, filled_length}
use Rattle.text_buffer.proofs.Filled.{no_room_octets, put_room, put_octets}
use Rattle.text_buffer.proofs.LentRest.{put_nothing, put_one, put_more, rest_room}
use Rattle.spec_rule.specs.IssuerLists.{entry}
use Rattle.list_places.specs.Candidates.{candidate_at}
use Rattle.list_places.specs.Rounds.{kept_names}
use Rattle.list_places.proofs.RoundLaws.{kept_behind, kept_all, kept_done, kept_next}
use Rattle.list_entry.specs.Entries.{entry_of, EntryLength, entries_of, size_of}
use Rattle.list_entry.specs.declared.ListSize.{ListSize}
use Rattle.list_entry.proofs.ShortNames.{entry_short}

-- the entry of a text, by its length
module _ (s : List ℕ) where
  long_entry : 256 ≤ length s → entry_of (lowered s) ≡ []
  unfolding entry_of
  long_entry h = rw (length-map, le-ltb (length s) 256 h)

  pub no_length : 256 ≤ length s → EntryLength s 0
  no_length h = record { is = rw (long_entry h); small = omega arith }

  module _ (h : length s < 256) where
    short_entry : entry_of (lowered s) ≡ entry (lowered s)
    short_entry = entry_short (lowered s) (rw length-map h)

    short_length : length (entry_of (lowered s)) ≡ suc (length s)
    short_length = rw (short_entry, length-map)

    pub one_length : EntryLength s (length s + 1)
    one_length = record { is = omega (arith, short_length); small = omega arith }

-- an entry is put: its length octet, then its octets into the rest
abbrev begun : List ℕ → List ℕ → List ℕ
begun s d = set d 0 (length s)

abbrev rest : List ℕ → List ℕ → List ℕ
rest s d = take (length (begun s d) - 1) (drop 1 (begun s d))

module _ (s d : List ℕ) where
  pub no_entry : 256 ≤ length s → Put (entry_of (lowered s)) d d 0
  no_entry h = rw (long_entry s h) (put_nothing d)

  module _ (h : length s < 256) (fits : length (entry_of (lowered s)) ≤ length d) where
    room : length s < length d
    room = rw (short_length s h) at fits

    pub entry_starts : 0 < length d
    entry_starts = omega (arith, room)

    pub octets_from : 1 ≤ length (begun s d)
    octets_from = rw length-set (omega (arith, room))

    module _ (y : List ℕ) (n : ℕ) (f : y ≡ filled (lowered s) (rest s d)) (g : n ≡ filled_length (lowered s) (rest s d)) where
      octets_put : Put (lowered s) (rest s d) y n
      octets_put =
          put_room (lowered s) (rest s d) (rest_room (begun s d) 1 (length (lowered s)) (rw (length-set, length-map) (omega (arith, room)))) y n f g

      pub entry_fits : length d < 2 ^ 64 → Fits w64 (1 + n)
      entry_fits small = record { fits = omega (arith, room, octets_put.count, length-map s lower) }

      pub entry_put : Put (entry_of (lowered s)) d (take 1 (begun s d) ++ (y ++ drop (length (begun s d) - 1) (drop 1 (begun s d)))) (1 + n)
      entry_put =
          rw (short_entry s h)
          (put_more (put_one (length s) d (omega (arith, room))) (lowered s) (entry (lowered s)) (rw length-map) y n octets_put)

module _ (book names : List ℕ) (count : ℕ) (rounds : List ℕ) (t : ℕ) where
  abbrev kept : List (List ℕ)
  kept = kept_names book names count rounds t

  abbrev left : ℕ → List (List ℕ)
  left i = kept_behind book names count rounds t i

  entries_all : entries_of (left 0) ≡ entries_of kept
  entries_all = rw (kept_all book names count rounds t)

  -- z is how many candidates are looked at
  module _ (i r z : ℕ) (u : r ≡ min count (length rounds)) (v : z ≡ min r max_records) (h : i < z) where
    next : left i ≡ cons_if (eqb (get_or rounds i 0) t) (lowered (candidate_at book names i)) (left (i + 1))
    next = kept_next book names count rounds t i (omega (arith, u, v)) (omega (arith, u, v)) (omega (arith, u, v))

    -- a candidate of another round
    passed : (get_or rounds i 0 ≡ t → ⊥) → left i ≡ left (i + 1)
    passed e = next ∙ rw (ne_eqb (get_or rounds i 0) t e)

    -- a candidate of this round, with the octets p
    module _ (e : get_or rounds i 0 ≡ t) (p : List ℕ) (f : p ≡ candidate_at book names i) where
      here : left i ≡ lowered p ∷ left (i + 1)
      here = next ∙ rw (eq-eqb (get_or rounds i 0) t e, f)

      entries_here : entries_of (left i) ≡ entry_of (lowered p) ++ entries_of (left (i + 1))
      unfolding entries_of
      entries_here = rw here

      entries_less : length (entries_of (left i)) ≡ length (entry_of (lowered p)) + length (entries_of (left (i + 1)))
      entries_less = rw (entries_here, length-append)

  -- so many names and octets so far
  pub record Measured (k n i : ℕ) : Type 0 where
    pub few : k ≤ i
    pub small : n ≤ i * 256
    pub names_left : k + length (left i) ≡ length kept
    pub octets_left : n + length (entries_of (left i)) ≡ length (entries_of kept)

  pub measure_start : Measured 0 0 0
  measure_start = record {
    few = omega arith;
    small = omega arith;
    names_left = omega (arith, ap length (kept_all book names count rounds t));
    octets_left = omega (arith, ap length entries_all);
  }

  module _ (k n i : ℕ) (m : Measured k n i) where
    all_measured : left i ≡ [] → record { count = k; octets = n } ≡ size_of kept
    unfolding entries_of
    all_measured e =
        let names : k ≡ length kept = omega (arith, m.names_left, ap length e) in
        let octets : n ≡ length (entries_of kept) = omega (arith, m.octets_left, ap (λ l. length (entries_of l)) e) in
        rw (names, octets)

    pub measure_done : (r z : ℕ) → r ≡ min count (length rounds) → z ≡ min r max_records → z ≤ i → record { count = k; octets = n } ≡ size_of kept
    measure_done r z u v h = all_measured (kept_done book names count rounds t i r z u v h)

    module _ (r z : ℕ) (u : r ≡ min count (length rounds)) (v : z ≡ min r max_records) (h : i < z) where
      pub measure_passed : (get_or rounds i 0 ≡ t → ⊥) → Measured k n (i + 1)
      measure_passed e = record {
        few = omega (arith, m.few);
        small = omega (arith, m.small);
        names_left = rw (← passed i r z u v h e) m.names_left;
        octets_left = rw (← passed i r z u v h e) m.octets_left;
      }

      module _ (e : get_or rounds i 0 ≡ t) (p : List ℕ) (f : p ≡ candidate_at book names i) (l : ℕ) (q : EntryLength p l) where
        pub measure_fits : Fits w64 (n + l)
        unfolding max_records
        measure_fits = record { fits = omega (arith, m.small, q.small) }

        pub measure_next : Measured (k + 1) (n + l) (i + 1)
        measure_next = record {
          few = omega (arith, m.few);
          small = omega (arith, m.small, q.small);
          names_left = omega (arith, m.names_left, ap length (here i r z u v h e p f));
          octets_left = omega (arith, m.octets_left, entries_less i r z u v h e p f, q.is);
        }

  -- the entries before candidate i are put, and w octets stand at the front of what was the buffer d and is now x
  pub record Placed (d x : List ℕ) (w i : ℕ) : Type 0 where
    pub room : length (entries_of kept) ≤ length d
    pub same_length : length x ≡ length d
    pub before : List ℕ
    pub put : Put before d x w
    pub behind : before ++ entries_of (left i) ≡ entries_of kept

  -- s is the size of the list
  module _ (d : List ℕ) (s : ListSize) (all : s ≡ size_of kept) where
    octets_told : s.octets ≡ length (entries_of kept)
    octets_told = ap (λ (z : ListSize). z.octets) all

    pub no_room : length d < s.octets → d ≡ filled (entries_of kept) d
    no_room short = no_room_octets (entries_of kept) d (omega (arith, octets_told))

    pub place_start : s.octets ≤ length d → Placed d d 0 0
    place_start fits = record {
      room = omega (arith, octets_told);
      same_length = refl;
      before = [];
      put = put_nothing d;
      behind = entries_all;
    }

  module _ (d x : List ℕ) (w i : ℕ) (so_far : Placed d x w i) where
    all_placed : left i ≡ [] → x ≡ filled (entries_of kept) d
    unfolding entries_of
    all_placed e =
        let whole : Put (entries_of kept) d x w = rw (← so_far.behind, e, append-nil) so_far.put in
        put_octets (entries_of kept) d so_far.room x w whole

    pub place_done : (r z : ℕ) → r ≡ min count (length rounds) → z ≡ min r max_records → z ≤ i → x ≡ filled (entries_of kept) d
    place_done r z u v h = all_placed (kept_done book names count rounds t i r z u v h)

    module _ (r z : ℕ) (u : r ≡ min count (length rounds)) (v : z ≡ min r max_records) (h : i < z) where
      pub place_passed : (get_or rounds i 0 ≡ t → ⊥) → Placed d x w (i + 1)
      place_passed e = record {
        room = so_far.room;
        same_length = so_far.same_length;
        before = so_far.before;
        put = so_far.put;
        behind = rw (← passed i r z u v h e) so_far.behind;
      }

      module _ (e : get_or rounds i 0 ≡ t) (p : List ℕ) (f : p ≡ candidate_at book names i) where
        inside : w + length (entry_of (lowered p)) ≤ length x
        inside =
            let whole = rw length-append at (ap length so_far.behind) in
            omega (arith, so_far.room, so_far.put.count, so_far.same_length, entries_less i r z u v h e p f)

        pub place_from : w ≤ length x
        place_from = omega (arith, inside)

        pub place_room : length (entry_of (lowered p)) ≤ length (take (length x - w) (drop w x))
        place_room = rest_room x w (length (entry_of (lowered p))) inside

        module _ (y : List ℕ) (n : ℕ) (q : Put (entry_of (lowered p)) (take (length x - w) (drop w x)) y n) where
          pub place_fits : length d < 2 ^ 64 → Fits w64 (w + n)
          place_fits small = record { fits = omega (arith, inside, q.count, so_far.same_length) }

          pub place_next :
              length (take w x ++ (y ++ drop (length x - w) (drop w x))) ≡ length x →
              Placed d (take w x ++ (y ++ drop (length x - w) (drop w x))) (w + n) (i + 1)
          place_next same = record {
            room = so_far.room;
            same_length = same ∙ so_far.same_length;
            before = so_far.before ++ entry_of (lowered p);
            put = put_more so_far.put (entry_of (lowered p)) (so_far.before ++ entry_of (lowered p)) refl y n q;
            behind = rw (append_assoc, ← entries_here i r z u v h e p f) so_far.behind;
          }
