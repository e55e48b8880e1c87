-- Two books that have the same for a name: the same lookup, but for numbers and owners.
use Rattle.std.proofs.lemmas.Option.{none-some}
use Rattle.std.specs.Prelude.{Option, None, Some}
use Prim.Native.Nat.{ℕ, zero, suc}
use mathlib.Core.Path.{◌≡◌, refl, ap, sym, ◌∙◌, fun_ext}
use mathlib.Core.List.{List, [], ◌∷◌, map, nil≢cons, cons≢nil, head-eq_of_cons-eq, tail-eq_of_cons-eq}
use Rattle.spec_limits.specs.Limits.{max_aliases}
use Rattle.spec_octets.specs.Lists.{select}
use Rattle.spec_octets.specs.Octets.{lowered}
use Rattle.spec_octets.proofs.ListLaws.{alike}
use Rattle.spec_name.specs.Names.{Name, same_name}
use Rattle.spec_name.proofs.WholeNames.{whole_names}
use Rattle.spec_rule.specs.Aliases.{Alias, aliases_of, through, followed}
use Rattle.spec_rule.specs.RelevantSet.{CaaRecord, Book, Lookup, empty, found, endless, as_lookup, caa_at, looked_up, lookup}
use Rattle.spec_rule.proofs.Following.{followed_ends}
use Rattle.spec_session.specs.Meaning.{onward, targets, properties_of, HoldsAs}

pub data Alike : Lookup → Lookup → Type 0 where
  both_empty : Alike empty empty
  both_found : {rs qs : List CaaRecord} → properties_of rs ≡ properties_of qs → Alike (found rs) (found qs)
  both_endless : {q r : ℕ} → Alike (endless q) (endless r)

-- following ends at the same name, ignoring case, or at none
data SameEnd : Option Name → Option Name → Type 0 where
  neither : SameEnd None None
  each : {u v : Name} → map lowered u ≡ map lowered v → SameEnd (Some u) (Some v)

module _ (al bl : List Alias) where
  followed_alike :
      (n : ℕ) (x y : Name) → map lowered x ≡ map lowered y →
      map (map lowered) (targets (suc n) al x) ≡ map (map lowered) (targets (suc n) bl y) → SameEnd (followed n al x) (followed n bl y)
  followed_alike zero x y e h = go (aliases_of al x) (aliases_of bl y) h
    where
      go :
          (ps qs : List Alias) → map (map lowered) (onward ps (targets zero al)) ≡ map (map lowered) (onward qs (targets zero bl)) →
          SameEnd (through ps (λ t. None) x) (through qs (λ t. None) y)
      go [] [] h = each e
      go [] (b ∷ qs) h = absurd (nil≢cons h)
      go (a ∷ ps) [] h = absurd (cons≢nil h)
      go (a ∷ ps) (b ∷ qs) h = neither
  followed_alike (suc n) x y e h = go (aliases_of al x) (aliases_of bl y) h (followed_alike n)
    where
      go :
          (ps qs : List Alias) → map (map lowered) (onward ps (targets (suc n) al)) ≡ map (map lowered) (onward qs (targets (suc n) bl)) →
          ((x y : Name) → map lowered x ≡ map lowered y →
          map (map lowered) (targets (suc n) al x) ≡ map (map lowered) (targets (suc n) bl y) → SameEnd (followed n al x) (followed n bl y)) →
          SameEnd (through ps (followed n al) x) (through qs (followed n bl) y)
      go [] [] h later = each e
      go [] (b ∷ qs) h later = absurd (nil≢cons h)
      go (a ∷ ps) [] h later = absurd (cons≢nil h)
      go (a ∷ ps) (b ∷ qs) h later = later a.target b.target (head-eq_of_cons-eq h) (tail-eq_of_cons-eq h)

-- without an alias, a name is its own end
no_alias_ends : (n : ℕ) (al : List Alias) (x : Name) → aliases_of al x ≡ [] → followed n al x ≡ Some x
no_alias_ends zero al x e = rw e refl
no_alias_ends (suc n) al x e = rw e refl

-- records of a name, in whatever case it is written
same_owner : (rs : List CaaRecord) (u v : Name) → map lowered u ≡ map lowered v → caa_at rs u ≡ caa_at rs v
same_owner rs u v e = ap (λ p. select p rs) (fun_ext (λ r. tests r.owner))
  where
    tests : (o : Name) → same_name o u ≡ same_name o v
    tests o = alike (same_name o u) (same_name o v) (
      λ h. (whole_names.0 o v).1 ((whole_names.0 o u).0 h ∙ e),
      λ h. (whole_names.0 o u).1 ((whole_names.0 o v).0 h ∙ sym e),
    )

as_lookups : (rs qs : List CaaRecord) → properties_of rs ≡ properties_of qs → Alike (as_lookup rs) (as_lookup qs)
as_lookups [] [] e = both_empty
as_lookups [] (q ∷ qs) e = absurd (nil≢cons e)
as_lookups (r ∷ rs) [] e = absurd (cons≢nil e)
as_lookups (r ∷ rs) (q ∷ qs) e = both_found e

pub same_lookups : (whole part : Book) (x : Name) → HoldsAs whole part x → Alike (lookup part x) (lookup whole x)
unfolding lookup
same_lookups whole part x (chain, sets) = go
    (followed max_aliases part.aliases x) (followed max_aliases whole.aliases x) refl refl
    (followed_alike part.aliases whole.aliases max_aliases x x refl chain)
  where
    go :
        (o p : Option Name) → followed max_aliases part.aliases x ≡ o → followed max_aliases whole.aliases x ≡ p → SameEnd o p →
        Alike (looked_up part.caa (aliases_of part.aliases x) o) (looked_up whole.caa (aliases_of whole.aliases x) p)
    go None (Some v) e f h = elim h [ ]
    go (Some u) None e f h = elim h [ ]
    go (Some u) (Some v) e f (each h) = as_lookups
        (caa_at part.caa u)
        (caa_at whole.caa v)
        (ap properties_of (same_owner part.caa u v h) ∙ sets v ((followed_ends whole.aliases max_aliases x v).0 f))
    go None None e f neither = first_aliases (aliases_of part.aliases x) (aliases_of whole.aliases x) refl refl
      where
        first_aliases :
            (ps qs : List Alias) → aliases_of part.aliases x ≡ ps → aliases_of whole.aliases x ≡ qs →
            Alike (looked_up part.caa ps None) (looked_up whole.caa qs None)
        first_aliases [] qs i j = absurd (none-some x (sym e ∙ no_alias_ends max_aliases part.aliases x i))
        first_aliases (a ∷ ps) [] i j = absurd (none-some x (sym f ∙ no_alias_ends max_aliases whole.aliases x j))
        first_aliases (a ∷ ps) (b ∷ qs) i j = both_endless
