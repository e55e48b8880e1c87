-- An edit of an owner that touches no name of the request: both books give the same answers.
use Rattle.std.proofs.lemmas.Option.{same_Some, none-some}
use Rattle.std.specs.Prelude.{Option, None, Some}
use Prim.Native.Nat.{ℕ, zero, suc}
use mathlib.Core.Path.{◌≡◌, refl, sym, ap, ◌∙◌, fun_ext}
use mathlib.Core.Bool.{Bool, true, false, cond}
use mathlib.Core.List.{List, [], ◌∷◌, ◌++◌, map}
use Rattle.spec_limits.specs.Limits.{max_aliases}
use Rattle.spec_refusal.specs.declared.Refusal.{Refusal}
use Rattle.spec_octets.specs.Lists.{any, select, All, all_nil, all_cons, Selects, selects_nil, selects_take, selects_pass}
use Rattle.spec_octets.proofs.ListLaws.{not_passed, All-head, All-tail, All-imp}
use Rattle.spec_octets.proofs.SelectLaws.{select_map}
use Rattle.spec_name.specs.Names.{Name, same_name, ancestors}
use Rattle.spec_name.proofs.WholeNames.{whole_names}
use Rattle.spec_request.specs.Request.{base, request_refusal}
use Rattle.spec_issuer.specs.Issuer.{issuer_refusal}
use Rattle.spec_applicant.specs.Applicant.{Applicant, applicant_refusal}
use Rattle.spec_record.specs.Records.{Record, is_caa, is_alias, target}
use Rattle.spec_record.specs.Property.{property}
use Rattle.spec_record.specs.Kinds.{kept, of_kind_from}
use Rattle.spec_rule.specs.declared.Judgement.{Judgement}
use Rattle.spec_rule.specs.Aliases.{Alias, as_alias, aliases, aliases_of, through, followed}
use Rattle.spec_rule.specs.RelevantSet.{as_caa, Book, as_book, caa_at, looked_up, lookup, relevant_set, labels_off}
use Rattle.spec_rule.specs.Authorizations.{authorization}
use Rattle.spec_rule.specs.Verdicts.{decision, verdict}
use Rattle.spec_rule.specs.IssuerLists.{issuers}
use Rattle.spec_rule.specs.Calls.{authorizations, decisions, judge, list_issuers, first_refusal, refused_or}
use Rattle.spec_rule.specs.Theorems.{renumbered, renumbered_alias, renumbered_book, renumbered_verdict}
use Rattle.spec_rule.proofs.Renumber.{renumbering}
use Rattle.spec_session.specs.Meaning.{targets, onward}
use Rattle.spec_edit.specs.Edits.{touches_from, touches}
use Rattle.spec_edit.specs.Meaning.{Apart, Untouched, DifferOnlyAt}
use Rattle.spec_edit.specs.Theorems.{EditElsewhere}
use Rattle.spec_edit.proofs.Touching.{apart, NotAmong, not_from, not_touched, untouched}

-- records of one kind, without their numbers: those of a name other than o are found among the records of other owners
module _ {A B : Type 0} (is_of : ℕ → ℕ → Bool) (read : List ℕ → Option A) (made : ℕ → Name → A → B) (strip : B → B) (ownerOf : B → Name)
    (numberless : (k j : ℕ) (w : Name) (a : A) → strip (made k w a) ≡ strip (made j w a))
    (owned : (k : ℕ) (w : Name) (a : A) → ownerOf (strip (made k w a)) ≡ w) where
  abbrev pub stripped : ℕ → List Record → List B
  stripped k rs = map strip (of_kind_from is_of read made k rs)

  module _ (o y : Name) (other : same_name o y ≡ false) where
    abbrev own : List B → List B
    own bs = select (λ b. same_name (ownerOf b) y) bs

    -- a record of another owner stands in both
    both :
        (k j : ℕ) (w : Name) (t : Bool) (d : Option A) (bs cs : List B) → own (map strip bs) ≡ own (map strip cs) →
        own (map strip (cond t (kept (made k w) d) [] ++ bs)) ≡ own (map strip (cond t (kept (made j w) d) [] ++ cs))
    both k j w false d bs cs e = e
    both k j w true None bs cs e = e
    both k j w true (Some a) bs cs e = rw (numberless k j w a, e) refl

    -- a record of o is none of y
    without :
        (k : ℕ) (w : Name) (t : Bool) (d : Option A) (bs : List B) → same_name w y ≡ false →
        own (map strip (cond t (kept (made k w) d) [] ++ bs)) ≡ own (map strip bs)
    without k w false d bs e = refl
    without k w true None bs e = refl
    without k w true (Some a) bs e = rw (owned k w a, e) refl

    not_of : (w : Name) → (Apart o w → ⊥) → same_name w y ≡ false
    not_of w h = not_passed (same_name w y) (λ e. h (λ s. (apart o y).0 other (s ∙ (whole_names.0 w y).0 e)))

    of_others : (k j : ℕ) {rs others : List Record} → Selects (λ r. Apart o r.owner) rs others → own (stripped k rs) ≡ own (stripped j others)
    of_others k j selects_nil = refl
    of_others k j (selects_take {x = r} h s) =
        both k j r.owner (is_of r.type r.class) (read r.rdata) _ _ (of_others (suc k) (suc j) s)
    of_others k j (selects_pass {x = r} h s) =
        without k r.owner (is_of r.type r.class) (read r.rdata) _ (not_of r.owner h) ∙ of_others (suc k) j s

    pub agreed : {old new : List Record} → DifferOnlyAt o old new → own (stripped 0 new) ≡ own (stripped 0 old)
    agreed (others, kept-old, kept_new) = of_others 0 0 kept_new ∙ sym (of_others 0 0 kept-old)

abbrev unnumbered : ℕ → ℕ
unnumbered r = 0

-- what is followed does not depend on numbers
module _ (al : List Alias) where
  abbrev plain : List Alias
  plain = map (renumbered_alias unnumbered) al

  plain_aliases : (x : Name) → aliases_of plain x ≡ map (renumbered_alias unnumbered) (aliases_of al x)
  plain_aliases x = select_map (renumbered_alias unnumbered) (λ a. same_name a.owner x) (λ a. same_name a.owner x) (λ a. refl) al

  plain_onward : (bs : List Alias) (follow : Name → List Name) → onward (map (renumbered_alias unnumbered) bs) follow ≡ onward bs follow
  plain_onward [] follow = refl
  plain_onward (a ∷ bs) follow = refl

  plain_targets : (n : ℕ) (x : Name) → targets n plain x ≡ targets n al x
  plain_targets zero x = refl
  plain_targets (suc n) x = rw (plain_aliases x, fun_ext (plain_targets n)) (plain_onward (aliases_of al x) (targets n al))

-- two lists of aliases that agree on every name but o
module _ (al bl : List Alias) (o : Name) (agree : (y : Name) → same_name o y ≡ false → aliases_of bl y ≡ aliases_of al y) where
  same_end : (n : ℕ) (x : Name) → NotAmong al o (x ∷ targets n al x) → followed n bl x ≡ followed n al x
  same_end zero x h = rw (agree x (All-head h)) refl
  same_end (suc n) x h = rw (agree x (All-head h)) (go (aliases_of al x) (All-tail h) (same_end n))
    where
      go :
          (bs : List Alias) → NotAmong al o (onward bs (targets n al)) →
          ((t : Name) → NotAmong al o (t ∷ targets n al t) → followed n bl t ≡ followed n al t) → through bs (followed n bl) x ≡ through bs (followed n al) x
      go [] h later = refl
      go (a ∷ bs) h later = later a.target h

  -- and the end is not o
  end_apart : (n : ℕ) (x y : Name) → NotAmong al o (x ∷ targets n al x) → followed n al x ≡ Some y → same_name o y ≡ false
  end_apart zero x y h = go (aliases_of al x)
    where
      go : (bs : List Alias) → through bs (λ t. None) x ≡ Some y → same_name o y ≡ false
      go [] e = let k = same_Some x y e in rw k at (All-head h)
      go (a ∷ bs) e = absurd (none-some y e)
  end_apart (suc n) x y h = go (aliases_of al x) (All-tail h) (λ t. end_apart n t y)
    where
      go :
          (bs : List Alias) → NotAmong al o (onward bs (targets n al)) →
          ((t : Name) → NotAmong al o (t ∷ targets n al t) → followed n al t ≡ Some y → same_name o y ≡ false) →
          through bs (followed n al) x ≡ Some y → same_name o y ≡ false
      go [] later-h later e = let k = same_Some x y e in rw k at (All-head h)
      go (a ∷ bs) later-h later e = later a.target later-h e

-- two books that agree on every name but o
module _ (old new : Book) (o : Name)
    (aliases_agree : (y : Name) → same_name o y ≡ false → aliases_of new.aliases y ≡ aliases_of old.aliases y)
    (caa_agree : (y : Name) → same_name o y ≡ false → caa_at new.caa y ≡ caa_at old.caa y) where
  same_lookup : (x : Name) → touches_from old.aliases o x ≡ false → lookup new x ≡ lookup old x
  unfolding lookup
  same_lookup x e =
      rw (aliases_agree x (All-head h), same_end old.aliases new.aliases o aliases_agree max_aliases x h)
      (go (followed max_aliases old.aliases x) (λ y. end_apart old.aliases new.aliases o aliases_agree max_aliases x y h))
    where
      h : NotAmong old.aliases o (x ∷ targets max_aliases old.aliases x)
      h = (not_from old.aliases o x).0 e

      endless_too : (bs : List Alias) → looked_up new.caa bs None ≡ looked_up old.caa bs None
      endless_too [] = refl
      endless_too (a ∷ bs) = refl

      go :
          (end : Option Name) → ((y : Name) → end ≡ Some y → same_name o y ≡ false) →
          looked_up new.caa (aliases_of old.aliases x) end ≡ looked_up old.caa (aliases_of old.aliases x) end
      go None away = endless_too (aliases_of old.aliases x)
      go (Some y) away = rw (caa_agree y (away y refl)) refl

  same_lookups : {xs : List Name} → All (λ x. touches_from old.aliases o x ≡ false) xs → map (lookup new) xs ≡ map (lookup old) xs
  same_lookups all_nil = refl
  same_lookups (all_cons {x} e h) = rw (same_lookup x e, same_lookups h) refl

  module _ (who : Applicant) where
    same_authorization : (n : Name) → touches old o n ≡ false → authorization who new n ≡ authorization who old n
    unfolding authorization relevant_set
    same_authorization n e = rw (same_lookups ((not_touched old o n).0 e)) refl

    same_decision : (n : Name) → touches old o n ≡ false → decision who new n ≡ decision who old n
    unfolding decision labels_off
    same_decision n e = rw (same_authorization n e, same_lookups ((not_touched old o n).0 e)) refl

    pub same_decisions : {ns : List Name} → All (λ n. touches old o n ≡ false) ns → map (decision who new) ns ≡ map (decision who old) ns
    same_decisions all_nil = refl
    same_decisions (all_cons {x} e h) = rw (same_decision x e, same_decisions h) refl

    pub same_authorizations : {ns : List Name} → All (λ n. touches old o n ≡ false) ns → map (authorization who new) ns ≡ map (authorization who old) ns
    same_authorizations all_nil = refl
    same_authorizations (all_cons {x} e h) = rw (same_authorization x e, same_authorizations h) refl

-- a book without its numbers: an owner touches the same names
abbrev bare : List Record → Book
bare rs = renumbered_book unnumbered (as_book rs)

bare_touches : (rs : List Record) (o n : Name) → touches (bare rs) o n ≡ touches (as_book rs) o n
unfolding touches touches_from
bare_touches rs o n = ap (λ f. any (λ x. any (same_name o) (x ∷ f x)) (ancestors (base n))) (fun_ext (plain_targets (aliases rs) max_aliases))

module _ (o : Name) {old new : List Record} (differ : DifferOnlyAt o old new) where
  aliases_agree : (y : Name) → same_name o y ≡ false → aliases_of (bare new).aliases y ≡ aliases_of (bare old).aliases y
  aliases_agree y e = agreed is_alias target as_alias (renumbered_alias unnumbered) (λ a. a.owner) (λ k j w a. refl) (λ k w a. refl) o y e differ

  caa_agree : (y : Name) → same_name o y ≡ false → caa_at (bare new).caa y ≡ caa_at (bare old).caa y
  caa_agree y e = agreed is_caa property as_caa (renumbered unnumbered) (λ r. r.owner) (λ k j w a. refl) (λ k w a. refl) o y e differ

  module _ {ns : List Name} (all : All (Untouched (as_book old) o) ns) (who : Applicant) where
    away : All (λ n. touches (bare old) o n ≡ false) ns
    away = All-imp (λ n h. bare_touches old o n ∙ (untouched (as_book old) o n).1 h) all

    same_verdict :
        (d : List ℕ) → renumbered_verdict unnumbered (verdict d (map (decision who (as_book new)) ns))
        ≡ renumbered_verdict unnumbered (verdict d (map (decision who (as_book old)) ns))
    same_verdict d =
        sym ((renumbering unnumbered who (as_book new) ns).1 d)
        ∙ ap (verdict d) (same_decisions (bare old) (bare new) o aliases_agree caa_agree who away)
        ∙ (renumbering unnumbered who (as_book old) ns).1 d

    same_issuers : issuers (map (authorization who (as_book new)) ns) ≡ issuers (map (authorization who (as_book old)) ns)
    same_issuers =
        sym (renumbering unnumbered who (as_book new) ns).2
        ∙ ap issuers (same_authorizations (bare old) (bare new) o aliases_agree caa_agree who away)
        ∙ (renumbering unnumbered who (as_book old) ns).2

-- the same refusal, or verdicts that are the same
checked :
    (c : Option Refusal) (v w : Judgement) → renumbered_verdict unnumbered v ≡ renumbered_verdict unnumbered w →
    renumbered_verdict unnumbered (refused_or c v) ≡ renumbered_verdict unnumbered (refused_or c w)
checked None v w h = h
checked (Some r) v w h = refl

pub edit_elsewhere : EditElsewhere
unfolding judge decisions list_issuers authorizations
edit_elsewhere request old new o e f differ all = record {
  judged = λ issuer who. rw (e, f) (checked
      (first_refusal (request_refusal request ∷ issuer_refusal issuer ∷ applicant_refusal who ∷ None ∷ []))
      (verdict issuer (decisions request who new))
      (verdict issuer (decisions request who old))
      (same_verdict o differ all who issuer));
  listed = λ who buffer. rw (e, f, same_issuers o differ all who) refl;
}
