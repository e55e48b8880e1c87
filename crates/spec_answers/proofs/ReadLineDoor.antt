-- The word of caa_read_line and the buffer: a refusal, or the data, which caa_write_line writes as a line again.
use Rattle.std.proofs.lemmas.Option.{none-some, same_Some}
use Rattle.std.specs.Prelude.{Option, None, Some, Err}
use Prim.Native.Nat.{ℕ, ◌≤◌, ◌<◌}
use native.Mathlib.Omega.{arith}
use mathlib.Core.Path.{◌≡◌, refl, sym, ◌∙◌}
use mathlib.Core.Logic.Iff
use mathlib.Core.Logic.{◌⊎◌, inl, inr, ⊎_elim}
use mathlib.Core.List.{List, [], ◌∷◌, Memᴰ}
use lib.ListN.{length, take}
use Rattle.spec_limits.specs.Limits.{max_data_octets, max_line_octets}
use Rattle.spec_refusal.specs.declared.Refusal.TheVariants.{NoRoom, BadLine, LineTooLong}
use Rattle.spec_refusal.specs.Refusal.{number}
use Rattle.spec_octets.specs.Octets.{Octets}
use Rattle.spec_record.specs.Property.{Property, wire_property}
use Rattle.spec_record.proofs.PropertyLaws.{property_is_its_parts}
use Rattle.spec_line.specs.Written.{line}
use Rattle.spec_line.specs.Read.{read_line}
use Rattle.spec_line.specs.Grammar.{LineOf}
use Rattle.spec_line.specs.Calls.{Output, write_line, parse_line}
use Rattle.spec_line.specs.Theorems.{small_tag, Writable}
use Rattle.spec_line.proofs.Lines.{line_is_the_grammar}
use Rattle.spec_line.proofs.LineRefusals.{read_refusals}
use Rattle.spec_line.proofs.RoundTrip.{back_and_there}
use Rattle.spec_line.proofs.ReadBack.{line_placed, data_placed}
use Rattle.spec_packed.specs.Packed.{number_in, field_a, field_b, field_c}
use Rattle.spec_answers.specs.LineAnswers.{line_code}
use Rattle.spec_answers.specs.Door.{caa_write_line, caa_read_line, Outputs, front_of, ReadLineWord, CaaReadLine}
use Rattle.spec_answers.proofs.LineUnpacks.{FlagsFit, small_flags_unpack, read_line_unpacks}
use Rattle.spec_answers.proofs.DoorRows.{one_of}
use Rattle.spec_answers.proofs.DoorWords.{Holds, line_b, line_c}
use Rattle.spec_answers.proofs.LineDoors.{at_most_11, fits_or_not, no_room_word, placeless_word, a_unused, outputs, at_front, Number, Fills, fills}
use Rattle.spec_answers.proofs.WriteLineDoor.{line_within, line_reads}

-- a line stands for data, or it doesn't
readable : (s : List ℕ) → ((p : Property) × LineOf p s) ⊎ ((p : Property) → LineOf p s → ⊥)
readable s = go (read_line s) refl
  where
    go : (o : Option Property) → read_line s ≡ o → ((p : Property) × LineOf p s) ⊎ ((p : Property) → LineOf p s → ⊥)
    go None e = inr (λ p stands. none-some p (sym e ∙ (line_is_the_grammar s p).1 stands))
    go (Some p) e = inl (p, (line_is_the_grammar s p).0 e)

-- such data is one that can be written, with flags of one octet
writable : (s : List ℕ) (p : Property) → LineOf p s → Writable (wire_property p) p × (p.flags < 256)
writable s p (f, s₁, e, flags, (b₁, s₂, e₁, blanks, (t, s₃, e₂, (same, tag), (b₂, v, e₃, more, value)))) =
    let good = rw same at tag in ((refl, good.0, good.2), omega arith)

module _ (s buffer : List ℕ) (octets : Octets s) where
  abbrev O : Output
  O = parse_line s buffer

  abbrev W : ℕ
  W = (caa_read_line s buffer).word

  u : Holds (number_in W) (field_a W) (field_b W) (field_c W) (line_code O.answer)
  u = read_line_unpacks s buffer

  abbrev Good : Property → Type 0
  Good p = (length s ≤ max_line_octets) × LineOf p s × (length (wire_property p) ≤ max_data_octets)

  placed : (p : Property) → Good p → length (wire_property p) ≤ length buffer → O ≡ at_front (wire_property p) buffer
  placed p (short, stands, fits) room = data_placed s buffer p short stands fits room

  tight : (p : Property) → Good p → length buffer < length (wire_property p) → O.answer ≡ Err (NoRoom (length (wire_property p)))
  tight p (short, stands, fits) less = ((read_refusals s buffer).2 _).1 (short, (p, stands, fits, refl, less))

  way : (O.answer ≡ Err LineTooLong) ⊎ ((O.answer ≡ Err BadLine) ⊎ ((p : Property) × Good p))
  way = ⊎_elim
      (λ short. ⊎_elim
      (λ (p, stands). ⊎_elim
      (λ fits. inr (inr (p, (short, stands, fits))))
      (λ over. inl ((read_refusals s buffer).0.1 (inr (short, (p, stands, over)))))
      (fits_or_not (length (wire_property p)) max_data_octets))
      (λ h. inr (inl ((read_refusals s buffer).1.1 (short, h))))
      (readable s))
      (λ long. inl ((read_refusals s buffer).0.1 (inl long)))
      (fits_or_not (length s) max_line_octets)

  k : Fills O buffer W u BadLine Good wire_property
  k = fills O buffer W u BadLine Good wire_property placed tight (read_refusals s buffer).3 way

  -- a word that is 0 is not one of a refusal
  at_0 : number_in W ≡ 0 → (p : Property) → LineOf p s → Good p
  unfolding number
  at_0 n p stands =
      let (q, (short, other, small), room) = k.output_exactly.0 n in
      (short, stands, ⊎_elim (λ fits. fits) (λ over. absurd (large short over)) (fits_or_not (length (wire_property p)) max_data_octets))
    where
      large : length s ≤ max_line_octets → max_data_octets < length (wire_property p) → ⊥
      large short over =
          let ten = (placeless_word O buffer W u LineTooLong (omega arith) (omega arith)).1 ((read_refusals s buffer).0.1 (inr (short, (p, stands, over)))) in
          omega arith

  writes_again : number_in W ≡ 0 → (p : Property) → LineOf p s → (other : List ℕ) → length (line p) ≤ length other →
      Outputs (caa_write_line (take (field_a W) O.buffer) other) (line p)
  writes_again n p stands other room =
      let (short, st, fits) = at_0 n p stands in
      let (z, a, front) = k.there n p (short, stands, fits) in
      let (w, flags) = writable s p stands in
      rw (a, front)
      (outputs (write_line (wire_property p) other) other _ (small_flags_unpack (wire_property p) other (flags_of p w flags)) (line p)
      (line_placed (wire_property p) other p fits w room))
    where
      flags_of : (p : Property) → Writable (wire_property p) p → p.flags < 256 → FlagsFit (wire_property p)
      flags_of p w flags q e =
          rw (same_Some p q (sym ((property_is_its_parts (wire_property p) p).1 (w.0, w.1)) ∙ e)) at flags

  reads_again : number_in W ≡ 0 → (p : Property) → LineOf p s → (first second : List ℕ) → length (line p) ≤ length first →
      field_a W ≤ length second → Outputs (caa_read_line (front_of (caa_write_line (take (field_a W) O.buffer) first)) second) (wire_property (small_tag p))
  reads_again n p stands first second room₁ room₂ =
      let (short, st, fits) = at_0 n p stands in
      let (w, flags) = writable s p stands in
      let (z, a, front) = writes_again n p stands first room₁ in
      rw (a, front)
      (line_reads p
      ((line_is_the_grammar (line p) (small_tag p)).0 (back_and_there s p octets ((line_is_the_grammar s p).1 stands)))
      (line_within p flags w.1 fits) fits second (rw (k.there n p (short, stands, fits)).1 at room₂))

  enough : max_data_octets ≤ length buffer → number_in W ≡ 8 → ⊥
  enough long n =
      let (short, (p, stands, fits, is, less)) = ((read_refusals s buffer).2 (field_a W)).0 ((no_room_word O buffer W u (field_a W)).0 (n, refl)) in
      omega arith

  number_of : Number O buffer W u BadLine → Memᴰ (number_in W) (0 ∷ 8 ∷ 9 ∷ 10 ∷ [])
  unfolding number
  number_of (inl n) = rw n (one_of 0 _ refl)
  number_of (inr (inl n)) = rw n (one_of 8 _ refl)
  number_of (inr (inr (inl n))) = rw n (one_of 10 _ refl)
  number_of (inr (inr (inr n))) = rw n (one_of 9 _ refl)

  read_line_word : ReadLineWord s buffer W O.buffer
  unfolding number
  read_line_word = record {
    too_long_exactly = Iff.trans (placeless_word O buffer W u LineTooLong (omega arith) (omega arith)) (read_refusals s buffer).0;
    bad_line_exactly = Iff.trans (placeless_word O buffer W u BadLine (omega arith) (omega arith)) (read_refusals s buffer).1;
    no_room_exactly = λ n. Iff.trans (no_room_word O buffer W u n) ((read_refusals s buffer).2 n);
    read_exactly = (
      λ n. let (p, (short, stands, fits), room) = k.output_exactly.0 n in (short, (p, stands, fits, room)),
      λ (short, (p, stands, fits, room)). k.output_exactly.1 (p, (short, stands, fits), room),
    );
    data_there = λ n p stands. k.there n p (at_0 n p stands);
    rest_stays = k.rest_stays;
    length_stays = k.length_stays;
    refused_unchanged = k.unchanged;
    writes_again = writes_again;
    reads_again = reads_again;
    data_limit_enough = enough;
    numbers = number_of k.number_found_lem;
    c_unused = line_c _ _ _ _ O.answer u;
    b_unused = line_b _ _ _ _ O.answer u;
    a_unused = λ big. a_unused O buffer W u big (at_most_11 _ refl (number_of k.number_found_lem));
  }

pub caa_read_line_lem : CaaReadLine
caa_read_line_lem = read_line_word
