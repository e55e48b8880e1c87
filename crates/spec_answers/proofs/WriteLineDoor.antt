-- The word of caa_write_line and the buffer: a refusal, or the line, which caa_read_line reads back.
use Rattle.std.proofs.lemmas.Option.{none-some, same_Some}
use Rattle.std.specs.Prelude.{Option, None, Some, Err}
use Prim.Native.Nat.{ℕ, ◌≤◌, ◌<◌}
use native.Mathlib.Omega.{arith}
use mathlib.Core.Path.{◌≡◌, refl, sym, ◌∙◌}
use mathlib.Core.Logic.Iff
use mathlib.Core.Logic.{◌⊎◌, inl, inr, ⊎_elim}
use mathlib.Core.Bool.{Bool, true, false, true≢false}
use mathlib.Core.List.{List, [], ◌∷◌, Memᴰ}
use lib.ListN.{length, take, length-append, length-map}
use Rattle.spec_limits.specs.Limits.{max_tag_octets, max_data_octets, max_line_octets}
use Rattle.spec_refusal.specs.declared.Refusal.TheVariants.{NoRoom, LineTooLong, BadData}
use Rattle.spec_refusal.specs.Refusal.{number}
use Rattle.spec_octets.specs.Octets.{Octets, is_letter_or_digit}
use Rattle.spec_octets.proofs.ListLaws.{All-head, All-tail, All-rest, all_true}
use Rattle.spec_record.specs.Property.{Property, wire_property, property}
use Rattle.spec_record.proofs.PropertyLaws.{property_is_its_parts}
use Rattle.spec_line.specs.Written.{line}
use Rattle.spec_line.specs.Grammar.{LineOf, HasLine}
use Rattle.spec_line.specs.Calls.{Output, is_writable, write_line, parse_line}
use Rattle.spec_line.specs.Theorems.{small_tag, Writable}
use Rattle.spec_line.proofs.LineRefusals.{write_refusals}
use Rattle.spec_line.proofs.WrittenParts.{line_written}
use Rattle.spec_line.proofs.ReadBack.{line_placed, data_placed}
use Rattle.spec_line.proofs.LineLength.{line_short}
use Rattle.spec_packed.specs.Packed.{number_in, field_a, field_b, field_c}
use Rattle.spec_answers.specs.LineAnswers.{line_code}
use Rattle.spec_answers.specs.Door.{caa_write_line, caa_read_line, Outputs, WriteLineWord, CaaWriteLine}
use Rattle.spec_answers.proofs.LineUnpacks.{written_line_unpacks, read_line_unpacks}
use Rattle.spec_answers.proofs.DoorRows.{one_of}
use Rattle.spec_answers.proofs.DoorWords.{Holds, line_b, line_c}
use Rattle.spec_answers.proofs.LineDoors.{at_most_11, fits_or_not, no_room_word, placeless_word, a_unused, outputs, at_front, Number, Fills, fills}

-- the line of data within its limit is within the limit of lines
pub line_within : (p : Property) → p.flags < 256 → 1 ≤ length p.tag → length (wire_property p) ≤ max_data_octets → length (line p) ≤ max_line_octets
unfolding max_data_octets max_line_octets
line_within p flags tag fits =
    omega (arith, length-append p.tag p.value, line_short p flags)

-- a line of ours is read as the data with its tag in lower case
pub line_reads :
    (p : Property) → LineOf (small_tag p) (line p) → length (line p) ≤ max_line_octets → length (wire_property p) ≤ max_data_octets → (other : List ℕ) →
    length (wire_property p) ≤ length other → Outputs (caa_read_line (line p) other) (wire_property (small_tag p))
line_reads p stands short fits other room =
    outputs (parse_line (line p) other) other _ (read_line_unpacks (line p) other) (wire_property (small_tag p))
    (data_placed (line p) other (small_tag p) short stands (rw same fits) (rw same room))
  where
    same : length (wire_property (small_tag p)) ≡ length (wire_property p)
    same = simp (length-append, length-map)

-- data holds a property that can be written, or it doesn't
writable : (d : List ℕ) → ((p : Property) × Writable d p) ⊎ ((p : Property) → Writable d p → ⊥)
writable d = go (property d) refl
  where
    letters :
        (q : Property) → property d ≡ Some q → (t : Bool) → is_writable q ≡ t →
        ((p : Property) × Writable d p) ⊎ ((p : Property) → Writable d p → ⊥)
    letters q e true t = let (is, tagged) = (property_is_its_parts d q).0 e in inl (q, (is, tagged, (all_true is_letter_or_digit q.tag).0 t))
    letters q e false t = inr (λ p (is, tagged, good).
        let same : q ≡ p = same_Some q p (sym e ∙ (property_is_its_parts d p).1 (is, tagged)) in
        true≢false (sym ((all_true is_letter_or_digit p.tag).1 good) ∙ rw same at t))

    go : (o : Option Property) → property d ≡ o → ((p : Property) × Writable d p) ⊎ ((p : Property) → Writable d p → ⊥)
    go None e = inr (λ p (is, tagged, good). none-some p (sym e ∙ (property_is_its_parts d p).1 (is, tagged)))
    go (Some q) e = letters q e (is_writable q) refl

module _ (d buffer : List ℕ) (octets : Octets d) where
  abbrev O : Output
  O = write_line d buffer

  abbrev W : ℕ
  W = (caa_write_line d buffer).word

  u : Holds (number_in W) (field_a W) (field_b W) (field_c W) (line_code O.answer)
  u = written_line_unpacks d buffer octets

  abbrev Good : Property → Type 0
  Good p = (length d ≤ max_data_octets) × Writable d p

  placed : (p : Property) → Good p → length (line p) ≤ length buffer → O ≡ at_front (line p) buffer
  placed p (short, w) room = line_placed d buffer p short w room

  tight : (p : Property) → Good p → length buffer < length (line p) → O.answer ≡ Err (NoRoom (length (line p)))
  tight p (short, w) less = ((write_refusals d buffer).2 _).1 (short, (p, w, refl, less))

  way : (O.answer ≡ Err LineTooLong) ⊎ ((O.answer ≡ Err BadData) ⊎ ((p : Property) × Good p))
  way = ⊎_elim
      (λ short. inr (⊎_elim (λ (p, w). inr (p, (short, w))) (λ h. inl ((write_refusals d buffer).1.1 (short, h))) (writable d)))
      (λ long. inl ((write_refusals d buffer).0.1 long))
      (fits_or_not (length d) max_data_octets)

  -- what can be written has a line
  has_line : (p : Property) → Writable d p → HasLine p
  unfolding max_tag_octets
  has_line p (is, tagged, letters) =
      let o : Octets (wire_property p) = rw is at octets in
      (All-head o, (tagged, omega (arith, All-head (All-tail o)), letters), All-rest p.tag p.value (All-tail (All-tail o)))

  k : Fills O buffer W u BadData Good line
  k = fills O buffer W u BadData Good line placed tight (write_refusals d buffer).3 way

  -- a word that is 0 is not one of a refusal
  at_0 : number_in W ≡ 0 → (p : Property) → Writable d p → Good p
  at_0 n p w = let (q, (short, v), room) = k.output_exactly.0 n in (short, w)

  reads_back : number_in W ≡ 0 → (p : Property) → Writable d p → (other : List ℕ) → length d ≤ length other →
      Outputs (caa_read_line (take (field_a W) O.buffer) other) (wire_property (small_tag p))
  reads_back n p w other room =
      let has = has_line p w in
      let (short, v) = at_0 n p w in
      let (z, a, front) = k.there n p (short, w) in
      rw (a, front)
      (line_reads p (line_written p has) (line_within p has.0 has.1.0 (rw w.0 at short)) (rw w.0 at short) other (rw w.0 at room))

  enough : max_line_octets ≤ length buffer → number_in W ≡ 8 → ⊥
  enough long n =
      let (short, (p, w, is, less)) = ((write_refusals d buffer).2 (field_a W)).0 ((no_room_word O buffer W u (field_a W)).0 (n, refl)) in
      let has = has_line p w in
      omega (arith, line_within p has.0 has.1.0 (rw w.0 at short))

  number_of : Number O buffer W u BadData → Memᴰ (number_in W) (0 ∷ 8 ∷ 10 ∷ 11 ∷ [])
  unfolding number
  number_of (inl n) = rw n (one_of 0 _ refl)
  number_of (inr (inl n)) = rw n (one_of 8 _ refl)
  number_of (inr (inr (inl n))) = rw n (one_of 10 _ refl)
  number_of (inr (inr (inr n))) = rw n (one_of 11 _ refl)

  write_line_word : WriteLineWord d buffer W O.buffer
  unfolding number
  write_line_word = record {
    too_long_exactly = Iff.trans (placeless_word O buffer W u LineTooLong (omega arith) (omega arith)) (write_refusals d buffer).0;
    bad_data_exactly = Iff.trans (placeless_word O buffer W u BadData (omega arith) (omega arith)) (write_refusals d buffer).1;
    no_room_exactly = λ n. Iff.trans (no_room_word O buffer W u n) ((write_refusals d buffer).2 n);
    written_exactly = (
      λ n. let (p, (short, w), room) = k.output_exactly.0 n in (short, (p, w, room)),
      λ (short, (p, w, room)). k.output_exactly.1 (p, (short, w), room),
    );
    line_there = λ n p w. k.there n p (at_0 n p w);
    rest_stays = k.rest_stays;
    length_stays = k.length_stays;
    refused_unchanged = k.unchanged;
    reads_back = reads_back;
    line_limit_enough = enough;
    numbers = number_of k.number_found_lem;
    c_unused = line_c _ _ _ _ O.answer u;
    b_unused = line_b _ _ _ _ O.answer u;
    a_unused = λ big. a_unused O buffer W u (omega arith) (at_most_11 _ refl (number_of k.number_found_lem));
  }

pub caa_write_line_lem : CaaWriteLine
caa_write_line_lem = write_line_word
