-- The name that a word tells, by its octets in the kept name.
use Prim.Native.Nat.{ℕ, ◌+◌}
use native.Mathlib.Omega.{arith}
use mathlib.Core.Path.{◌≡◌, refl, ap, sym, ◌∙◌}
use mathlib.Core.Logic.{◌≢◌}
use mathlib.Core.Bool.{Bool, true, false, cond}
use mathlib.Core.List.{List, [], ◌∷◌, ◌++◌, append_assoc, head-eq_of_cons-eq, tail-eq_of_cons-eq}
use lib.Dec.{leb}
use lib.ListN.{length, take, drop, length-append, take-append-drop}
use lib.Seq.{length-take-le, take-append_seam, drop-append_seam}
use borrow.Author.Tests.{leb-true}
use Rattle.spec_octets.specs.Lists.{all_nil}
use Rattle.spec_octets.specs.Octets.{Octets}
use Rattle.spec_octets.proofs.ListLaws.{All-front}
use Rattle.spec_name.specs.Names.{Name, wire}
use Rattle.spec_name.proofs.NameLaws.{fewer_labels}
use Rattle.spec_packed.specs.Packed.{number_in, field_a, field_b, field_c}
use Rattle.spec_session.specs.declared.Text.{Text}
use Rattle.spec_session.specs.declared.Session.{Session}
use Rattle.spec_session.specs.Sessions.{held, state}
use Rattle.spec_session.specs.Steps.{session_code}
use Rattle.spec_session_words.specs.SessionWords.{caa_session_state}
use Rattle.spec_session_words.specs.SessionDoor.{TellsName}
use Rattle.spec_session_words.proofs.SessionUnpacks.{session_unpacks}
use Rattle.spec_session_words.proofs.States.{Asking, state_fits}
use Rattle.spec_session_words.proofs.WordAnswers.{HoldsAnswer, of_session}

-- no two names have the same wire form
pub one_wire : (m n : Name) → wire m ≡ wire n → m ≡ n
one_wire [] [] e = refl
one_wire [] (l ∷ n) e =
    let sizes : 1 ≡ length (wire (l ∷ n)) = ap length e in absurd (omega (arith, sizes, length-append l (wire n), fewer_labels n))
one_wire (l ∷ m) [] e =
    let sizes : length (wire (l ∷ m)) ≡ 1 = ap length e in absurd (omega (arith, sizes, length-append l (wire m), fewer_labels m))
one_wire (l ∷ m) (k ∷ n) e =
    let rest : l ++ wire m ≡ k ++ wire n = tail-eq_of_cons-eq e in
    let long : length l ≡ length k = head-eq_of_cons-eq e in
    let first : l ≡ k = sym (take-append_seam l (wire m)) ∙ (rw (rest, long) (take-append_seam k (wire n))) in
    let others : wire m ≡ wire n = sym (drop-append_seam l (wire m)) ∙ (rw (rest, long) (drop-append_seam k (wire n))) in
    rw (first, one_wire m n others)

-- a kept text, in the octets that it is kept in
pub held_octets : (t : Text) → Octets t.octets → Octets (held t)
unfolding held
held_octets t h = go (leb t.length (length t.octets))
  where
    go : (f : Bool) → Octets (cond f (take t.length t.octets) [])
    go true = All-front (take t.length t.octets) (drop t.length t.octets) (rw (take-append-drop t.length t.octets) h)
    go false = all_nil

held_there : (t : Text) → held t ≢ [] → (t.length ≡ length (held t)) × (t.octets ≡ held t ++ drop t.length t.octets)
unfolding held
held_there t h = go (leb t.length (length t.octets)) refl h
  where
    go :
        (f : Bool) → leb t.length (length t.octets) ≡ f → cond f (take t.length t.octets) [] ≢ [] →
        (t.length ≡ length (cond f (take t.length t.octets) []))
        × (t.octets ≡ cond f (take t.length t.octets) [] ++ drop t.length t.octets)
    go true e h = (sym (length-take-le t.length t.octets (leb-true _ _ e)), sym (take-append-drop t.length t.octets))
    go false e h = absurd (h refl)

-- y is at the end of the kept text
in_text :
    (t : Text) (p : List ℕ) (y : Name) → held t ≡ p ++ wire y →
    (length p + length (wire y) ≡ t.length) × (take (length (wire y)) (drop (length p) t.octets) ≡ wire y)
in_text t p y e =
    let sizes = length-append p (wire y) in
    let (long, split) = held_there t (λ z. let none_left : length (held t) ≡ 0 = ap length z in let same = ap length e in omega (arith, fewer_labels y)) in
    let rest = drop t.length t.octets in
    let parts : t.octets ≡ p ++ (wire y ++ rest) = split ∙ ap (λ k. k ++ rest) e ∙ append_assoc p (wire y) rest in
    (sym sizes ∙ sym (ap length e) ∙ sym long, rw (parts, drop-append_seam p (wire y ++ rest)) (take-append_seam (wire y) rest))

pub state_word : (s : Session) → HoldsAnswer (number_in (caa_session_state s)) (field_a (caa_session_state s)) (field_b (caa_session_state s)) (field_c (caa_session_state s)) (state s)
state_word s = session_unpacks (state s) (state_fits s)

pub tells_next : {s : Session} (h : Asking s) → TellsName (caa_session_state s) s h.next
unfolding session_code
tells_next {s} h =
    let (n, a, b, c) = of_session _ _ _ _ h.in_words (state_word s) in
    let (ends, there) = in_text s.name h.front h.next h.ends in
    (n, a, rw (a, b) ends, rw (a, b) there)
