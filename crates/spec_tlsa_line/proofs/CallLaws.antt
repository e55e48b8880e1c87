-- When the two calls on TLSA lines refuse, what they write, and the two one after the other. The rows are those of CAA lines, shown once for both.
use Rattle.std.specs.Prelude.{Option, None, Some}
use Prim.Native.Nat.{ℕ, ◌≤◌, ◌<◌}
use native.Mathlib.Omega.{arith}
use mathlib.Core.Path.{◌≡◌, refl, ap}
use mathlib.Core.Logic.{inl, ⊎_elim}
use mathlib.Core.Bool.{Bool, true, false}
use mathlib.Core.List.{List, [], ◌∷◌}
use lib.Dec.{leb, leb-zero}
use lib.ListN.{length}
use lib.Seq.{take-append_seam}
use borrow.Author.Tests.{leb-true, leb-false, le-leb}
use Rattle.spec_limits.specs.Limits.{max_data_octets, max_line_octets}
use Rattle.spec_refusal.specs.declared.Refusal.TheVariants.{BadLine, BadData}
use Rattle.spec_octets.proofs.WholeLists.{not_empty}
use Rattle.spec_line.proofs.CallRefusals.{outcome, refusals}
use Rattle.spec_line.proofs.LineRefusals.{apart}
use Rattle.spec_line.proofs.ReadBack.{at_front, placed_fits}
use Rattle.spec_tlsa.specs.Association.{Association, wire_association, association}
use Rattle.spec_tlsa.specs.Meaning.{Holds}
use Rattle.spec_tlsa.proofs.AssociationLaws.{association_is_its_parts}
use Rattle.spec_tlsa_line.specs.Lines.{tlsa_line, read_tlsa_line}
use Rattle.spec_tlsa_line.specs.Calls.{written_of, write_tlsa_line, read_of, parse_tlsa_line}
use Rattle.spec_tlsa_line.specs.Grammar.{TlsaLineOf}
use Rattle.spec_tlsa_line.specs.Theorems.{TlsaWriteRefusals, TlsaReadRefusals, TlsaLinePlaced, TlsaDataPlaced, TlsaWrittenReadsBack}
use Rattle.spec_tlsa_line.proofs.LineLaws.{tlsa_line_is_the_grammar}
use Rattle.spec_tlsa_line.proofs.Written.{tlsa_line_written, tlsa_line_fits}

pub tlsa_read_refusals : TlsaReadRefusals
unfolding parse_tlsa_line
tlsa_read_refusals s buffer =
    rw (same (read_tlsa_line s))
    (refusals (length s) max_line_octets max_data_octets (λ a. length (wire_association a)) wire_association BadLine buffer (read_tlsa_line s)
    (λ a. TlsaLineOf a s) (tlsa_line_is_the_grammar s) (λ e. apart (cc)) (λ k e. apart (cc)))
  where
    same :
        (o : Option Association) →
        read_of o buffer ≡ outcome (length s) max_line_octets max_data_octets (λ a. length (wire_association a)) wire_association BadLine buffer o
    same None = refl
    same (Some a) = refl

-- data of 4 octets or more holds an association
held : (d : List ℕ) → 4 ≤ length d → (a : Association) × Holds d a
held [] h = absurd (omega arith)
held (u ∷ []) h = absurd (omega arith)
held (u ∷ s ∷ []) h = absurd (omega arith)
held (u ∷ s ∷ m ∷ []) h = absurd (omega arith)
held (u ∷ s ∷ m ∷ x ∷ d) h = (record { usage = u; selector = s; matching = m; octets = x ∷ d }, (refl, omega arith))

data_short : (d : List ℕ) → length d < 4 → length d ≤ max_data_octets
unfolding max_data_octets
data_short d h = omega arith

pub tlsa_write_refusals : TlsaWriteRefusals
unfolding write_tlsa_line
tlsa_write_refusals d buffer =
    let rows = refusals (length d) max_data_octets max_data_octets (λ a. 0) tlsa_line BadData buffer (association d)
    (Holds d) (association_is_its_parts d) (λ e. apart (cc)) (λ k e. apart (cc)) in
    rw (same (association d)) (
      (λ h. ⊎_elim (λ k. k) (λ k. absurd (omega (arith, k.1.2))) (rows.0.0 h), λ h. rows.0.1 (inl h)),
      (λ h. few (rows.1.0 h), λ h. rows.1.1 (short h)),
      λ n. (
        λ h. let (fits, k) = (rows.2 n).0 h in (fits, (k.0, k.1, k.3, k.4)),
        λ h. (rows.2 n).1 (h.0, (h.1.0, h.1.1, omega arith, h.1.2, h.1.3)),
      ),
      rows.3,
    )
  where
    same : (o : Option Association) → written_of o buffer ≡ outcome (length d) max_data_octets max_data_octets (λ a. 0) tlsa_line BadData buffer o
    same None = refl
    same (Some a) = rw leb-zero

    few : (length d ≤ max_data_octets) × ((a : Association) → Holds d a → ⊥) → length d < 4
    few (fits, nothing) = by (leb 4 (length d)) refl
      where
        by : (t : Bool) → leb 4 (length d) ≡ t → length d < 4
        by true e = let (a, holds) = held d (leb-true 4 (length d) e) in absurd (nothing a holds)
        by false e = leb-false 4 (length d) e

    short : length d < 4 → (length d ≤ max_data_octets) × ((a : Association) → Holds d a → ⊥)
    short h = (data_short d h, λ a holds. absurd (omega (arith, ap length holds.0, holds.1)))

pub tlsa_line_placed : TlsaLinePlaced
unfolding write_tlsa_line
tlsa_line_placed d buffer a short holds room =
    rw (le-leb (length d) max_data_octets short, (association_is_its_parts d a).1 holds) (placed_fits (tlsa_line a) buffer room)

pub tlsa_data_placed : TlsaDataPlaced
unfolding parse_tlsa_line
tlsa_data_placed s buffer a short stands fits room =
    rw (le-leb (length s) max_line_octets short, (tlsa_line_is_the_grammar s a).1 stands, le-leb (length (wire_association a)) max_data_octets fits)
    (placed_fits (wire_association a) buffer room)

pub tlsa_written_reads_back : TlsaWrittenReadsBack
tlsa_written_reads_back a b₁ b₂ has fits room₁ room₂ = rw (written, take-append_seam) (refl, read)
  where
    some_octets : 1 ≤ length a.octets
    some_octets = not_empty a.octets has.4

    written : write_tlsa_line (wire_association a) b₁ ≡ at_front (tlsa_line a) b₁
    written = tlsa_line_placed (wire_association a) b₁ a fits (refl, some_octets) room₁

    read : parse_tlsa_line (tlsa_line a) b₂ ≡ at_front (wire_association a) b₂
    read = tlsa_data_placed (tlsa_line a) b₂ a (tlsa_line_fits a has fits) (tlsa_line_written a has) fits room₂
