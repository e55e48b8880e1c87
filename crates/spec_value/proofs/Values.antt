-- Values of issue and issuewild properties: issue_value accepts exactly what the productions match.
use Prim.Native.Nat.{ℕ}
use Prim.Native.Char.{code}
use native.Mathlib.Omega.{arith}
use mathlib.Core.Path.{◌≡◌, refl, sym, ◌∙◌, ap}
use mathlib.Core.Logic.{◌↔◌, ◌≢◌, inl, inr}
use mathlib.Core.Bool.{Bool, true, false, cond, true≢false}
use mathlib.Core.List.{List, [], ◌∷◌, ◌++◌, cons≢nil, append-nil, append_assoc}
use Rattle.spec_octets.specs.Lists.{all_nil}
use Rattle.spec_octets.specs.Pieces.{split, join}
use Rattle.spec_octets.proofs.ListLaws.{All-join, All-head, All-tail}
use Rattle.spec_octets.proofs.PieceLaws.{pieces_join}
use Rattle.spec_octets.proofs.Runs.{many_of, of_many}
use Rattle.spec_value.specs.IssueValues.{IssueValue, malformed, nameless, named, trim, is_domain_name, are_parameters, name_in, from_pieces, issue_value}
use Rattle.spec_value.specs.Productions.{parameter_part, value_without_name, value_with_name}
use Rattle.spec_value.specs.Theorems.{ValueIsTheGrammar}
use Rattle.spec_value.proofs.Classes.{Free}
use Rattle.spec_value.proofs.Blanks.{trim_takes, trim_leaves}
use Rattle.spec_value.proofs.Cuts.{split_one, split_more}
use Rattle.spec_value.proofs.DomainNames.{domain_name_matches, domain_name_not_empty, domain_name_blankless, domain_name_free}
use Rattle.spec_value.proofs.Parameters.{blank_free}
use Rattle.spec_value.proofs.ParameterParts.{behind_matches}

-- s is f, which holds no semicolon, and a parameter part
abbrev Front : List ℕ → List ℕ → Type 0
Front s f = (r : List ℕ) × (s ≡ f ++ r) × Free (code ";") f × parameter_part r

-- the first piece of s is f, and the others are parameters
abbrev Cut : List ℕ → List ℕ → Type 0
Cut s f = (ps : List (List ℕ)) × (split (code ";") s ≡ f ∷ ps) × (are_parameters ps ≡ true)

front_matches : (s f : List ℕ) → Cut s f ↔ Front s f
unfolding are_parameters
front_matches s f = (λ h. forth h.0 h.1 h.2, λ h. back h.0 h.1 h.2 h.3)
  where
    forth : (ps : List (List ℕ)) → split (code ";") s ≡ f ∷ ps → are_parameters ps ≡ true → Front s f
    forth [] e h = let (made, some, free) = (pieces_join (code ";") s (f ∷ [])).0 e in ([], made ∙ sym (append-nil f), All-head free, inl refl)
    forth (p ∷ ps) e h =
        let (made, some, free) = (pieces_join (code ";") s (f ∷ p ∷ ps)).0 e in
        let behind = join (code ";") (p ∷ ps) in
        let again : split (code ";") behind ≡ p ∷ ps = (pieces_join (code ";") behind (p ∷ ps)).1 (refl, cons≢nil, All-tail free) in
        (code ";" ∷ behind, made, All-head free, inr (code ";" ∷ [], behind, refl, refl, (behind_matches behind).0 (rw again h)))

    back : (r : List ℕ) → s ≡ f ++ r → Free (code ";") f → parameter_part r → Cut s f
    back r e free (inl none) = ([], rw (e, none, append-nil f) (split_one (code ";") free), refl)
    back r e free (inr m) =
        let (semicolon, behind, e₁, here, rest) = m in
        (split (code ";") behind, rw (e, e₁, here) (split_more (code ";") free behind), (behind_matches behind).1 rest)

-- What the first piece says of the name.

named_fits : {n : List ℕ} → named n ≢ malformed
named_fits e = let z : ◌≡◌ {A = ℕ} 0 1 = cc in absurd (omega arith)

nameless_fits : nameless ≢ malformed
nameless_fits e = let z : ◌≡◌ {A = ℕ} 0 1 = cc in absurd (omega arith)

named_unlike : {n : List ℕ} → named n ≢ nameless
named_unlike e = let z : ◌≡◌ {A = ℕ} 0 1 = cc in absurd (omega arith)

name_found : (f n : List ℕ) → (name_in f ≡ named n) ↔ ((f ≡ n) × (is_domain_name n ≡ true))
name_found [] n = (
  λ e. absurd (named_unlike (sym e)),
  λ k. let (empty, good) = k in absurd (true≢false (sym good ∙ ap is_domain_name (sym empty) ∙ domain_name_not_empty)),
)
name_found (x ∷ s) n = (go (is_domain_name (x ∷ s)) refl, λ k. let (whole, good) = k in rw (ap is_domain_name whole ∙ good) (ap named whole))
  where
    go : (t : Bool) → is_domain_name (x ∷ s) ≡ t → cond t (named (x ∷ s)) malformed ≡ named n → (x ∷ s ≡ n) × (is_domain_name n ≡ true)
    go true e h = let whole : x ∷ s ≡ n = cc in (whole, rw whole at e)
    go false e h = absurd (named_fits (sym h))

no_name : (f : List ℕ) → (name_in f ≡ nameless) ↔ (f ≡ [])
no_name [] = (λ e. refl, λ e. refl)
no_name (x ∷ s) = (go (is_domain_name (x ∷ s)), λ e. absurd (cons≢nil e))
  where
    go : (t : Bool) → cond t (named (x ∷ s)) malformed ≡ nameless → x ∷ s ≡ []
    go true h = absurd (named_unlike h)
    go false h = absurd (nameless_fits (sym h))

-- a value that fits is a front that says so, and a parameter part
reads : (s : List ℕ) (v : IssueValue) → v ≢ malformed → (issue_value s ≡ v) ↔ ((f : List ℕ) × Front s f × (name_in (trim f) ≡ v))
unfolding issue_value
reads s v fits = (go (split (code ";") s) refl, λ k. let (ps, e, t) = (front_matches s k.0).1 k.1 in rw (e, t) k.2)
  where
    by : (f : List ℕ) (ps : List (List ℕ)) → split (code ";") s ≡ f ∷ ps → (t : Bool) → are_parameters ps ≡ t → cond t (name_in (trim f)) malformed ≡ v →
        (f : List ℕ) × Front s f × (name_in (trim f) ≡ v)
    by f ps e true t h = (f, (front_matches s f).0 (ps, e, t), h)
    by f ps e false t h = absurd (fits (sym h))

    go : (ps : List (List ℕ)) → split (code ";") s ≡ ps → from_pieces ps ≡ v → (f : List ℕ) × Front s f × (name_in (trim f) ≡ v)
    go [] e h = absurd (fits (sym h))
    go (f ∷ ps) e h = by f ps e (are_parameters ps) refl h

-- the name is what the first piece holds between blanks
pub name_in_front : (s n : List ℕ) → issue_value s ≡ named n → (f r : List ℕ) × (s ≡ f ++ r) × (trim f ≡ n) × (n ≢ [])
name_in_front s n e =
    let (f, front, told) = (reads s (named n) named_fits).0 e in
    let (r, whole, free, part) = front in
    let (found, good) = (name_found (trim f) n).0 told in
    (f, r, whole, found, λ none. true≢false (sym good ∙ ap is_domain_name none ∙ domain_name_not_empty))

-- The productions.

around : {s f x n : List ℕ} (a b r : List ℕ) → s ≡ f ++ r → f ≡ a ++ (x ++ b) → x ≡ n → s ≡ a ++ (n ++ (b ++ r))
around a b r e₁ e₂ e₃ = rw (e₁, e₂, e₃) (simp append_assoc)

within : {s r₁ x r₂ n : List ℕ} (a b r : List ℕ) → s ≡ a ++ r₁ → r₁ ≡ x ++ r₂ → x ≡ n → r₂ ≡ b ++ r → s ≡ a ++ (n ++ b) ++ r
within a b r e₁ e₂ e₃ e₄ = rw (e₁, e₂, e₃, e₄) (simp append_assoc)

with_name_lem : (s n : List ℕ) → (issue_value s ≡ named n) ↔ value_with_name n s
with_name_lem s n = (λ e. forth ((reads s (named n) named_fits).0 e), λ m. (reads s (named n) named_fits).1 (back m))
  where
    forth : (f : List ℕ) × Front s f × (name_in (trim f) ≡ named n) → value_with_name n s
    forth k =
        let (f, front, e) = k in
        let (r, e₁, free, part) = front in
        let (a, b, e₂, before, after) = trim_takes f in
        let (e₃, good) = (name_found (trim f) n).0 e in (
          a,
          n ++ (b ++ r),
          around a b r e₁ e₂ e₃,
          of_many before,
          (n, b ++ r, refl, (refl, (domain_name_matches n).0 good), (b, r, refl, of_many after, part)),
        )

    back : value_with_name n s → (f : List ℕ) × Front s f × (name_in (trim f) ≡ named n)
    back m =
        let (a, r₁, e₁, before, m₁) = m in
        let (x, r₂, e₂, name, m₂) = m₁ in
        let (b, r, e₃, after, part) = m₂ in
        let good : is_domain_name n ≡ true = (domain_name_matches n).1 (rw name.0 at name.1) in
        let free = All-join (blank_free (many_of before)) (All-join (domain_name_free good) (blank_free (many_of after))) in
        let left = trim_leaves (many_of before) (domain_name_blankless good) (many_of after) in
        (a ++ (n ++ b), (r, within a b r e₁ e₂ name.0 e₃, free, part), (name_found (trim (a ++ (n ++ b))) n).1 (left, good))

without_name : (s : List ℕ) → (issue_value s ≡ nameless) ↔ value_without_name s
without_name s = (λ e. forth ((reads s nameless nameless_fits).0 e), λ m. (reads s nameless nameless_fits).1 (back m))
  where
    forth : (f : List ℕ) × Front s f × (name_in (trim f) ≡ nameless) → value_without_name s
    forth k =
        let (f, front, e) = k in
        let (r, e₁, free, part) = front in
        let (a, b, e₂, before, after) = trim_takes f in
        (f, r, e₁, of_many (rw (e₂, (no_name (trim f)).0 e) (All-join before after)), part)

    back : value_without_name s → (f : List ℕ) × Front s f × (name_in (trim f) ≡ nameless)
    back m =
        let (f, r, e, blank, part) = m in
        let left : trim f ≡ [] = rw (append-nil f) at (trim_leaves (many_of blank) all_nil all_nil) in
        (f, (r, e, blank_free (many_of blank), part), (no_name (trim f)).1 left)

pub value_is_the_grammar : ValueIsTheGrammar
value_is_the_grammar s = (
  with_name_lem s,
  without_name s,
  (λ e. (λ n m. named_fits (sym ((with_name_lem s n).1 m) ∙ e), λ m. nameless_fits (sym ((without_name s).1 m) ∙ e)), go (issue_value s) refl),
)
  where
    go : (v : IssueValue) → issue_value s ≡ v → ((n : List ℕ) → value_with_name n s → ⊥) × (value_without_name s → ⊥) → issue_value s ≡ malformed
    go malformed e h = e
    go nameless e h = absurd (h.1 ((without_name s).0 e))
    go (named n) e h = absurd (h.0 n ((with_name_lem s n).0 e))
