-- A parameter with white space around it: the test and the production agree.
use Prim.Native.Nat.{ℕ}
use Prim.Native.Char.{code}
use native.Mathlib.Omega.{arith}
use mathlib.Core.Path.{◌≡◌, refl, sym, ap, ◌∙◌}
use mathlib.Core.Logic.{◌↔◌, ◌≢◌}
use mathlib.Core.Bool.{Bool, true, false, ◌&&◌, false≢true, and-eq-true_iff}
use mathlib.Core.List.{List, [], ◌∷◌, ◌++◌, append_assoc}
use Rattle.spec_octets.specs.Lists.{all, all_cons}
use Rattle.spec_octets.specs.Octets.{is_blank, is_letter_or_digit, is_upper, is_lower, is_digit, trim_start, trim_end, is_parameter_octet}
use Rattle.spec_octets.specs.Label.{is_letter_digit_hyphen, is_label}
use Rattle.spec_octets.specs.Pieces.{split, join}
use Rattle.spec_octets.specs.Grammar.{◌⊕◌}
use Rattle.spec_octets.proofs.ListLaws.{told_apart, All-join, all_true, All-head, All-imp}
use Rattle.spec_octets.proofs.Labels.{label_parts, label_is_the_production}
use Rattle.spec_octets.proofs.PieceLaws.{pieces_join}
use Rattle.spec_octets.proofs.Runs.{Of, many_of, of_many, not_blank, Blank, Blankless}
use Rattle.spec_value.specs.IssueValues.{trim, is_parameter_tag, is_tag_and_value, is_parameter}
use Rattle.spec_value.specs.Productions.{blanks, tag, parameter}
use Rattle.spec_value.proofs.Classes.{Free}
use Rattle.spec_octets.proofs.TrimEnds.{trim_start_takes, trim_end_takes, trim_end_leaves}
use Rattle.spec_value.proofs.Blanks.{trim_takes, trim_leaves, trim_within}
use Rattle.spec_value.proofs.Cuts.{split_more}

-- the octets of a tag; no blank, no "=" and no ";" is one
abbrev is_tag_octet : ℕ → Bool
is_tag_octet = is_letter_digit_hyphen

tag_octets :
    (is_tag_octet (code " ") ≡ false) × (is_tag_octet (code "\t") ≡ false) × (is_tag_octet (code "=") ≡ false) × (is_tag_octet (code ";") ≡ false)
unfolding is_letter_digit_hyphen is_letter_or_digit is_upper is_lower is_digit
tag_octets = (refl, refl, refl, refl)

-- the test of a tag and its production
pub tag_matches : (t : List ℕ) → (is_parameter_tag t ≡ true) ↔ tag t
unfolding is_parameter_tag
tag_matches t = label_is_the_production t

tag_plain : (t : List ℕ) → is_parameter_tag t ≡ true → Of is_tag_octet t
unfolding is_parameter_tag
tag_plain t h = ((label_parts t).0 h).0

pub no_empty_tag : is_parameter_tag [] ≡ false
unfolding is_parameter_tag is_label
no_empty_tag = refl

-- A parameter by its parts.

-- tag, blanks, "=", blanks, value
pub record Spelled (s : List ℕ) : Type 0 where
  pub first : ℕ
  pub others : List ℕ
  pub before : List ℕ
  pub after : List ℕ
  pub octets : List ℕ
  pub whole : s ≡ (first ∷ others) ++ (before ++ (code "=" ∷ (after ++ octets)))
  pub tagged : is_parameter_tag (first ∷ others) ≡ true
  pub blank_before : Blank before
  pub blank_after : Blank after
  pub valued : Of is_parameter_octet octets

by_tag : {s : List ℕ} (t b a v : List ℕ) → s ≡ t ++ (b ++ (code "=" ∷ (a ++ v))) → is_parameter_tag t ≡ true →
    Blank b → Blank a → Of is_parameter_octet v → Spelled s
by_tag [] b a v e h before after octets = absurd (false≢true (sym no_empty_tag ∙ h))
by_tag (x ∷ t) b a v e h before after octets =
    record {
      first = x;
      others = t;
      before = b;
      after = a;
      octets = v;
      whole = e;
      tagged = h;
      blank_before = before;
      blank_after = after;
      valued = octets;
    }

pub spelled : {s : List ℕ} → parameter s → Spelled s
spelled m =
    let (t, s₁, e₁, head, m₁) = m in
    let (b, s₂, e₂, before, m₂) = m₁ in
    let (c, s₃, e₃, equals, m₃) = m₂ in
    let (a, v, e₄, after, octets) = m₃ in
    by_tag t b a v (rw (e₁, e₂, e₃, equals, e₄)) ((tag_matches t).1 head) (many_of before) (many_of after) (many_of octets)

-- from the test to the production
tag_and_value : (s : List ℕ) → is_tag_and_value (split (code "=") s) ≡ true → parameter s
tag_and_value s h = go (split (code "=") s) refl h
  where
    go : (ps : List (List ℕ)) → split (code "=") s ≡ ps → is_tag_and_value ps ≡ true → parameter s
    go [] e h = absurd (false≢true h)
    go (t ∷ []) e h = absurd (false≢true h)
    go (t ∷ v ∷ vs) e h =
        let behind = join (code "=") (v ∷ vs) in
        let made = (pieces_join (code "=") s (t ∷ v ∷ vs)).0 e in
        let both = (and-eq-true_iff (is_parameter_tag (trim_end t)) (all is_parameter_octet (trim_start behind))).0 h in
        let (b, e₁, before) = trim_end_takes t in
        let (a, e₂, after) = trim_start_takes behind in (
          trim_end t,
          b ++ (code "=" ∷ behind),
          made.0 ∙ ap (λ (l : List ℕ). l ++ (code "=" ∷ behind)) e₁ ∙ append_assoc (trim_end t) b (code "=" ∷ behind),
          (tag_matches (trim_end t)).0 both.0,
          (
            b,
            code "=" ∷ behind,
            refl,
            of_many before,
            (code "=" ∷ [], behind, refl, refl, (a, trim_start behind, e₂, of_many after, of_many ((all_true is_parameter_octet (trim_start behind)).0 both.1))),
          ),
        )

-- and back
pub value_behind : (t s : List ℕ) →
    is_tag_and_value (t ∷ split (code "=") s) ≡ (is_parameter_tag (trim_end t) && all is_parameter_octet (trim_start s))
value_behind t s = let made = (pieces_join (code "=") s (split (code "=") s)).0 refl in go (split (code "=") s) made.0 made.1
  where
    go : (ps : List (List ℕ)) → s ≡ join (code "=") ps → ps ≢ [] →
        is_tag_and_value (t ∷ ps) ≡ (is_parameter_tag (trim_end t) && all is_parameter_octet (trim_start s))
    go [] e ne = absurd (ne refl)
    go (v ∷ vs) e ne = rw e

tag_not_blank : (x : ℕ) → is_tag_octet x ≡ true → is_blank x ≡ false
tag_not_blank = not_blank is_tag_octet tag_octets.0 tag_octets.1

pub tag_blankless : (t : List ℕ) → is_parameter_tag t ≡ true → Blankless t
tag_blankless t h = All-imp tag_not_blank (tag_plain t h)

pub value_blankless : {v : List ℕ} → Of is_parameter_octet v → Blankless v
unfolding is_parameter_octet
value_blankless = All-imp (not_blank is_parameter_octet refl refl)

equals_apart : {t b : List ℕ} → Of is_tag_octet t → Blank b → Free (code "=") (t ++ b)
unfolding is_blank
equals_apart {t} {b} h k =
    All-join (All-imp (told_apart is_tag_octet (code "=") tag_octets.2) h) (All-imp (told_apart is_blank (code "=") refl) k)

equals_not_blank : is_blank (code "=") ≡ false
unfolding is_blank
equals_not_blank = refl

-- with blanks around it, a parameter is cut behind its tag and the blanks there
pub cut_at_equals : {a b s : List ℕ} → Blank a → (p : Spelled s) → Blank b →
    split (code "=") (trim (a ++ (s ++ b))) ≡ (p.first ∷ p.others ++ p.before) ∷ split (code "=") (trim_end (p.after ++ (p.octets ++ b)))
cut_at_equals {a} {b} {s} front p back =
    let x = p.first in
    let t = p.others in
    let plain = tag_plain (x ∷ t) p.tagged in
    let r = p.after ++ (p.octets ++ b) in
    let shape : s ++ b ≡ (x ∷ t ++ p.before) ++ (code "=" ∷ r) = rw p.whole (simp append_assoc) in
    rw (shape, trim_within front x (tag_not_blank x (All-head plain)) (t ++ p.before) (code "=") equals_not_blank r)
    (split_more (code "=") (equals_apart plain p.blank_before) (trim_end r))

passes : {a b s : List ℕ} → Blank a → Spelled s → Blank b → is_parameter (a ++ (s ++ b)) ≡ true
unfolding is_parameter
passes {a} {b} {s} front p back =
    rw (
      cut_at_equals front p back,
      value_behind (p.first ∷ p.others ++ p.before) (trim_end (p.after ++ (p.octets ++ b))),
      trim_end_leaves (tag_blankless (p.first ∷ p.others) p.tagged) p.blank_before,
      p.tagged,
      trim_leaves p.blank_after (value_blankless p.valued) back,
    )
    ((all_true is_parameter_octet p.octets).1 p.valued)

pub parameter_matches : (s : List ℕ) → (is_parameter s ≡ true) ↔ (blanks ⊕ parameter ⊕ blanks) s
unfolding is_parameter
parameter_matches s = (
  λ e. let (a, b, made, front, back) = trim_takes s in
      (a, trim s ++ b, made, of_many front, (trim s, b, refl, tag_and_value (trim s) e, of_many back)),
  λ m. let (a, r, e₁, front, m₁) = m in
      let (p, b, e₂, body, back) = m₁ in
      rw (e₁, e₂) (passes (many_of front) (spelled body) (many_of back)),
)

-- no semicolon stands in a parameter
pub blank_free : {s : List ℕ} → Blank s → Free (code ";") s
unfolding is_blank
blank_free = All-imp (told_apart is_blank (code ";") refl)

spelled_free : {s : List ℕ} → Spelled s → Free (code ";") s
unfolding is_parameter_octet
spelled_free p =
    let tag_Free = All-imp (told_apart is_tag_octet (code ";") tag_octets.3) (tag_plain (p.first ∷ p.others) p.tagged) in
    let value-free = All-imp (told_apart is_parameter_octet (code ";") refl) p.valued in
    let apart : code "=" ≢ code ";" = λ e. omega arith in
    rw p.whole (All-join tag_Free (All-join (blank_free p.blank_before) (all_cons apart (All-join (blank_free p.blank_after) value-free))))

pub parameter_free : {a s b : List ℕ} → blanks a → parameter s → blanks b → Free (code ";") (a ++ (s ++ b))
parameter_free front body back = All-join (blank_free (many_of front)) (All-join (spelled_free (spelled body)) (blank_free (many_of back)))
