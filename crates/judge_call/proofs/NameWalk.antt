-- judge: its checks in their order, then name by name. With k names permitted, the names left from `at` on give the answer.
use Rattle.std.specs.Prelude.{None, Result, Ok, Err, Option, Some}
use Prim.Native.Nat.{ℕ, suc, ◌≤◌, ◌<◌, ◌+◌, ◌-◌}
use native.Mathlib.Numerals.{add-one}
use native.Mathlib.Omega.{arith}
use mathlib.Core.Path.{◌≡◌, refl, sym, ap, ◌∙◌}
use mathlib.Core.Bool.{Bool, true, false, cond}
use mathlib.Core.List.{List, map}
use lib.ListN.{length, take, drop}
use Rattle.spec_limits.specs.Limits.{max_names}
use Rattle.spec_octets.specs.Lists.{All}
use Rattle.spec_octets.proofs.ListLaws.{All-head, All-tail}
use Rattle.spec_refusal.specs.Checks.{checked}
use Rattle.spec_refusal.proofs.Checked.{refused, accepted}
use Rattle.spec_refusal.specs.declared.RecordNo.{RecordNo}
use Rattle.spec_refusal.specs.declared.Refusal.{Refusal}
use Rattle.spec_refusal.specs.declared.Refusal.TheVariants.{BadName}
use Rattle.spec_name.specs.Names.{Name, wire, GoodName}
use Rattle.read_request.specs.declared.Requested.{Requested}
use Rattle.spec_request.specs.Request.{is_wildcard, base, requested_names}
use Rattle.read_request.specs.Places.{requested_at}
use Rattle.read_request.proofs.RequestPlaces.{requested_there, next_after}
use Rattle.spec_request.proofs.RequestedNames.{good_base}
use Rattle.read_request.proofs.AcceptedNames.{NamesLeft, NextName, all_names, names_end, names_few, names_good, next_name}
use Rattle.spec_record.specs.Records.{records, book_refusal}
use Rattle.spec_applicant.specs.Applicant.{Applicant}
use Rattle.spec_rule.specs.declared.Judgement.{Judgement}
use Rattle.spec_rule.specs.declared.Judgement.TheVariants.{Permitted, Refused}
use Rattle.spec_rule.specs.RelevantSet.{as_book, labels_off}
use Rattle.spec_rule.specs.Authorizations.{Authorization, authorization, permits}
use Rattle.spec_rule.specs.Verdicts.{Decision, decision, denied, verdict_from, verdict}
use Rattle.spec_rule.specs.Calls.{decisions, first_refusal, judge_checks, judge}
use Rattle.read_inputs.proofs.CheckLaws.{none_refuses}
use Rattle.book_places.specs.declared.Nearest.{Nearest}
use Rattle.book_places.specs.Table.{room_for}
use Rattle.book_places.specs.Sets.{nearest_record, labels_off_at}
use Rattle.book_places.specs.NameAuthorizations.{by_set, name_authorization, meaning}
use Rattle.book_places.proofs.ChainedRecords.{chains_fit}
use Rattle.book_places.proofs.ClimbLaws.{labels_off_by_offset}
use Rattle.book_places.proofs.AuthorizationLaws.{authorization_by_offset}
use Rattle.book_places.proofs.Bounds.{nearest_below}
use Rattle.judge_set.specs.BySet.{verdict_by_set}
use Rattle.judge_call.specs.Asked.{Ready}
use Rattle.judge_call.proofs.AskedLaws.{permits_it}

-- what `let Judgement::Permitted = j else` knows
abbrev pub NotPermitted : Judgement → Type 0
NotPermitted j = j ≡ Permitted → ⊥

never_permitted : {A : Type 0} → NotPermitted Permitted → A
never_permitted h = absurd (h refl)

-- the verdict on one name, and what follows it
module _ (issuer : List ℕ) (k u : ℕ) (behind : Judgement) where
  denies_it :
      (a : Authorization) (j : Judgement) → j ≡ cond (permits issuer a) Permitted (denied k u a) → NotPermitted j →
      j ≡ cond (permits issuer a) behind (denied k u a)
  denies_it a j e h = go (permits issuer a) e
    where
      go : (t : Bool) → j ≡ cond t Permitted (denied k u a) → j ≡ cond t behind (denied k u a)
      go true f = never_permitted (rw f at h)
      go false f = f

-- the checks that come before
module _ (who : Applicant) (request issuer book : List ℕ) (c : Result Unit Refusal) (f : c ≡ checked (first_refusal (judge_checks request issuer who book))) where
  pub input_refused : (r : Refusal) → c ≡ Err r → Refused r ≡ judge request issuer who book
  unfolding judge
  input_refused r g = rw (refused (first_refusal (judge_checks request issuer who book)) f r g)

  pub none_refused : c ≡ (Ok tt) → first_refusal (judge_checks request issuer who book) ≡ None
  none_refused g = accepted (first_refusal (judge_checks request issuer who book)) f g

module _ (who : Applicant) (request issuer book table links heads onward : List ℕ) where
  abbrev decided : Name → Decision
  decided n = decision who (as_book (records book)) n

  -- the loop's invariant: the names left give the answer
  pub record Judged (at k : ℕ) : Type 0 where
    pub names : List Name
    pub left : NamesLeft request at k names
    pub answer : judge request issuer who book ≡ verdict_from k issuer (map decided names)
    pub ready : Ready who request issuer book table links heads onward

  module _ (ready : Ready who request issuer book table links heads onward) where
    passes : All (λ check. check ≡ None) (judge_checks request issuer who book)
    passes = none_refuses (judge_checks request issuer who book) ready.accepted

    book_passes : book_refusal book ≡ None
    book_passes = All-head (All-tail (All-tail (All-tail passes)))

    pub names_start : (at k : ℕ) → at ≡ 0 → k ≡ 0 → Judged at k
    unfolding judge decisions verdict
    names_start at k a b = rw (a, b) (record {
      names = requested_names request;
      left = all_names request (All-head passes);
      answer = rw ready.accepted;
      ready = ready;
    })

    -- what is said of a good name, by the table and the chains
    by_table :
        (n : Name) → GoodName n → {s : List ℕ} {wildcard : Bool} → s ≡ wire (base n) → wildcard ≡ is_wildcard n →
        meaning who book table links (name_authorization book table links heads onward s wildcard) ≡ authorization who (as_book (records book)) n
    unfolding authorization
    by_table n good x y =
        rw (ready.rows, ready.chained, ready.headed, ready.pointed, x, y)
        (authorization_by_offset who book (base n) (is_wildcard n) book_passes (good_base n good))

    -- and how far up
    off_by_table :
        (n : Name) → GoodName n → {s : List ℕ} → s ≡ wire (base n) →
        labels_off_at book table links heads onward s ≡ labels_off (as_book (records book)) (base n)
    off_by_table n good x =
        rw (ready.rows, ready.chained, ready.headed, ready.pointed, x)
        (labels_off_by_offset book (base n) book_passes (good_base n good))

  module _ (at k : ℕ) (w : Judged at k) where
    pub all_passed : length request ≤ at → Permitted ≡ judge request issuer who book
    all_passed h = sym (w.answer ∙ rw (names_end request w.left h))

    module _ (h : at < length request) where
      pub few : k < max_names
      few = names_few request w.left h

      module _ (o : Option Requested) (f : o ≡ requested_at request at) where
        pub no_bad_name : o ≡ None → Refused (BadName (record { 0 = k })) ≡ judge request issuer who book
        no_bad_name g = absurd (names_good request w.left h o f g)

        module _ (r : Requested) (g : o ≡ Some r) where
          pub base_first : r.base ≤ r.next
          base_first = let (n, to) = requested_there request at o f r g in omega (arith, to.onward)

          -- for an edit that climbs from the whole name: its part of the request is sound, and its answer is not
          pub name_first : at ≤ r.next
          name_first = omega (arith, next_after request at o f r g)

          this : NextName request k w.names r
          this = next_name request w.left h o f r g

          -- p is the first record of its relevant set, with the labels taken off
          module _
              (p : Nearest)
              (d : p ≡ record {
                found = nearest_record book table links heads onward (take (r.next - r.base) (drop r.base request));
                up = labels_off_at book table links heads onward (take (r.next - r.base) (drop r.base request));
              }) where
            abbrev behind : Judgement
            behind = verdict_from (suc k) issuer (map decided this.others)

            abbrev by : Option RecordNo → Authorization
            by first = meaning who book table links (by_set book table links r.wildcard first)

            found_there : p.found ≡ nearest_record book table links heads onward (take (r.next - r.base) (drop r.base request))
            found_there = ap (λ (q : Nearest). q.found) d

            off_there : p.up ≡ labels_off (as_book (records book)) (base this.first)
            off_there = ap (λ (q : Nearest). q.up) d ∙ off_by_table w.ready this.first this.good this.octets

            by_name : (first : Option RecordNo) → p.found ≡ first → judge request issuer who book ≡ cond (permits issuer (by first)) behind (denied k p.up (by first))
            unfolding name_authorization decision
            by_name first e =
                w.answer ∙ ap (λ ns. verdict_from k issuer (map decided ns)) this.split
                ∙ ap (λ v. cond (permits issuer v) behind (denied k (labels_off (as_book (records book)) (base this.first)) v))
                (sym (ap by (sym e ∙ found_there) ∙ by_table w.ready this.first this.good this.octets this.wild))
                ∙ ap (λ u. cond (permits issuer (by first)) behind (denied k u (by first))) (sym off_there)

            passed : judge request issuer who book ≡ behind → (k' : ℕ) → k' ≡ k + 1 → Judged r.next k'
            passed e k' i = rw (i, add-one) (record { names = this.others; left = this.after; answer = e; ready = w.ready })

            pub name_unrestricted : p.found ≡ None → (k' : ℕ) → k' ≡ k + 1 → Judged r.next k'
            name_unrestricted e = passed (by_name None e)

            module _ (set : RecordNo) (e : p.found ≡ Some set) where
              pub set_below : set.0 < room_for book
              set_below =
                  omega (arith, rw (sym found_there ∙ e) at (nearest_below links book table heads onward (take (r.next - r.base) (drop r.base request))), ap length w.ready.chained, (chains_fit book).0)

              -- j is the verdict by the set; a permitted name passes whatever is counted
              module _ (j : Judgement) where
                pub name_denied : j ≡ verdict_by_set who issuer book table links k set p.up r.wildcard → NotPermitted j → j ≡ judge request issuer who book
                unfolding verdict_by_set
                name_denied q h = denies_it issuer k p.up behind (by (Some set)) j q h ∙ sym (by_name (Some set) e)

                pub name_permitted :
                    (u : ℕ) → j ≡ verdict_by_set who issuer book table links k set u r.wildcard → j ≡ Permitted → (k' : ℕ) → k' ≡ k + 1 → Judged r.next k'
                unfolding verdict_by_set
                name_permitted u q h = passed (by_name (Some set) e ∙ rw (permits_it issuer k u (by (Some set)) (sym h ∙ q)))
