-- The octets after the first semicolon: the test on their pieces and the production agree.
use Prim.Native.Nat.{ℕ}
use Prim.Native.Char.{code}
use mathlib.Core.Path.{◌≡◌, refl, sym, ◌∙◌}
use mathlib.Core.Logic.{◌↔◌, ◌⊎◌, inl, inr}
use mathlib.Core.Bool.{true, false≢true}
use mathlib.Core.List.{List, [], ◌∷◌, ◌++◌, append-nil, append_assoc}
use Rattle.spec_octets.specs.Lists.{all, All}
use Rattle.spec_octets.specs.Octets.{is_blank}
use Rattle.spec_octets.specs.Pieces.{split, join}
use Rattle.spec_octets.specs.Grammar.{Production, ◌⊕◌, optional}
use Rattle.spec_octets.proofs.ListLaws.{or_eq_true, all_true, All-head, All-tail}
use Rattle.spec_octets.proofs.PieceLaws.{pieces_join}
use Rattle.spec_octets.proofs.Runs.{many_of, of_many}
use Rattle.spec_value.specs.IssueValues.{is_parameter, is_blank_alone, are_parameters}
use Rattle.spec_value.specs.Productions.{blanks, parameter, parameters, more, last}
use Rattle.spec_value.proofs.Cuts.{split_one, split_more}
use Rattle.spec_value.proofs.Parameters.{parameter_matches, blank_free, parameter_free}

-- *WSP [parameters *WSP]
abbrev pub Behind : Production
Behind = blanks ⊕ optional (parameters ⊕ blanks)

-- The texts that both sides make of the same parts.
gathered : {p r s r' : List ℕ} (a q b a' q' b' : List ℕ) → p ≡ a ++ r → r ≡ q ++ b → s ≡ a' ++ r' → r' ≡ q' ++ b' →
    p ++ (code ";" ∷ s) ≡ a ++ (q ++ (b ++ (code ";" ∷ a')) ++ q' ++ b')
gathered a q b a' q' b' e₁ e₂ e₃ e₄ = rw (e₁, e₂, e₃, e₄) (simp append_assoc)

parted : {s x r₁ r₂ c : List ℕ} (a q b₁ b₂ y b : List ℕ) → s ≡ x ++ y → x ≡ q ++ r₁ → r₁ ≡ b₁ ++ r₂ → r₂ ≡ c ++ b₂ → c ≡ code ";" ∷ [] →
    a ++ (s ++ b) ≡ a ++ (q ++ b₁) ++ (code ";" ∷ (b₂ ++ (y ++ b)))
parted a q b₁ b₂ y b e e₁ e₂ e₃ e₄ = rw (e, e₁, e₂, e₃, e₄) (simp append_assoc)

-- Pieces that are parameters, joined.
joined : (p : List ℕ) (ps : List (List ℕ)) → All (λ q. is_parameter q ≡ true) (p ∷ ps) → (blanks ⊕ parameters ⊕ blanks) (join (code ";") (p ∷ ps))
joined p [] h =
    let (a, r, e₁, front, m) = (parameter_matches p).0 (All-head h) in
    let (q, b, e₂, body, back) = m in
    (a, r, e₁, front, (q, b, e₂, last body, back))
joined p (k ∷ ps) h =
    let (a, r, e₁, front, m) = (parameter_matches p).0 (All-head h) in
    let (q, b, e₂, body, back) = m in
    let (a', r', e₃, front', m') = joined k ps (All-tail h) in
    let (q', b', e₄, body', back') = m' in
    let first : List ℕ = q ++ (b ++ (code ";" ∷ a')) in (
      a,
      (first ++ q') ++ b',
      gathered a q b a' q' b' e₁ e₂ e₃ e₄,
      front,
      (
        first ++ q',
        b',
        refl,
        more first q' refl (q, b ++ (code ";" ∷ a'), refl, body, (b, code ";" ∷ a', refl, back, (code ";" ∷ [], a', refl, refl, front'))) body',
        back',
      ),
    )

-- and back
one_parameter : {a q b : List ℕ} → blanks a → parameter q → blanks b → is_parameter (a ++ (q ++ b)) ≡ true
one_parameter {a} {q} {b} front body back = (parameter_matches (a ++ (q ++ b))).1 (a, q ++ b, refl, front, (q, b, refl, body, back))

pub pieces : {q : List ℕ} → parameters q → {a b : List ℕ} → blanks a → blanks b → all is_parameter (split (code ";") (a ++ (q ++ b))) ≡ true
pieces (last body) front back = rw (split_one (code ";") (parameter_free front body back), one_parameter front body back)
pieces (more x y e m rest) {a} {b} front back =
    let (q, r₁, e₁, body, m₁) = m in
    let (b₁, r₂, e₂, back₁, m₂) = m₁ in
    let (semicolon, b₂, e₃, here, front₂) = m₂ in
    rw (
      parted a q b₁ b₂ y b e e₁ e₂ e₃ here,
      split_more (code ";") (parameter_free front body back₁) (b₂ ++ (y ++ b)),
      one_parameter front body back₁,
    )
    (pieces rest front₂ back)

pub behind_matches : (s : List ℕ) → (are_parameters (split (code ";") s) ≡ true) ↔ Behind s
unfolding are_parameters
behind_matches s = (
  λ e. forth (split (code ";") s) refl (cases.0 e),
  λ m. let (a, r, e, front, rest) = m in cases.1 (back a r e front rest),
)
  where
    cases : (are_parameters (split (code ";") s) ≡ true) ↔ ((is_blank_alone (split (code ";") s) ≡ true) ⊎ (all is_parameter (split (code ";") s) ≡ true))
    cases = or_eq_true (is_blank_alone (split (code ";") s)) (all is_parameter (split (code ";") s))

    forth : (ps : List (List ℕ)) → split (code ";") s ≡ ps → (is_blank_alone ps ≡ true) ⊎ (all is_parameter ps ≡ true) → Behind s
    forth [] e o = absurd (((pieces_join (code ";") s []).0 e).1 refl)
    forth (p ∷ []) e (inl h) = (s, [], sym (append-nil s), of_many (rw ((pieces_join (code ";") s (p ∷ [])).0 e).0 ((all_true is_blank p).0 h)), inl refl)
    forth (p ∷ q ∷ ps) e (inl h) = absurd (false≢true h)
    forth (p ∷ ps) e (inr h) =
        let (a, r, made, front, rest) = joined p ps ((all_true is_parameter (p ∷ ps)).0 h) in
        (a, r, ((pieces_join (code ";") s (p ∷ ps)).0 e).0 ∙ made, front, inr rest)

    back : (a r : List ℕ) → s ≡ a ++ r → blanks a → optional (parameters ⊕ blanks) r →
        (is_blank_alone (split (code ";") s) ≡ true) ⊎ (all is_parameter (split (code ";") s) ≡ true)
    back a r e front (inl none) = inl (rw (e, none, append-nil a, split_one (code ";") (blank_free (many_of front))) ((all_true is_blank a).1 (many_of front)))
    back a r e front (inr m) = inr (rw (e, m.2) (pieces m.3 front m.4))
