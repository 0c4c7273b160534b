-- How many words a read gives does not go by what was counted, and a group's words go by the keys of its members.
use Rattle.std.specs.Prelude.{◌≡◌, ℕ, ◌+◌, ◌*◌, suc, nat_lt, Bool, true, false, not, List, [], ◌∷◌, ◌++◌, length, flat_map, Option, Some, None, if◌then◌else◌}
use Rattle.std.proofs.{Common.{arith, refl, ap, sym, ◌∙◌, length-append}, lemmas.{List.{length-map}}}
use Rattle.std.proofs.lemmas.List.Folds.{flat_map-map}
use Rattle.perf_base.specs.declared.{numbers.{EventNo.{EventNo}, Key.{Key}}, reasons.Reason.{Reason}, reply.Sums.{Sums}}
use Rattle.perf_base.specs.declared.reasons.Reason.TheVariants as reason
use Rattle.stage_spec.specs.{declared.instance.Instance.{Instance}, Effective.{state_in}, Hardware.{Hardware}}
use Rattle.stage_spec.specs.Reading.{times_of, marks_of, is_error, word_count, read_refusal, read_words, read_words_of, words_by, words_in, words_of_group, words_of_member, words_unless_error}
use Rattle.stage_spec.specs.{Refusals.{first_of, holds_of}, Stage.{Stage, Group, group_of, original_of}}
use Rattle.world_spec.specs.{Kept.{IsKept, leads, post_at}, StageOf.{group_at, stage_of}}
use Rattle.world_spec.{specs.Value.{World, entry_at, instance_at, family_of}, proofs.{Families.{group-members}}}
use Rattle.event_reads.{specs.Counted.{sums_in, lost_in, words_of_key}, proofs.Opened.{group-by, is-open, original-at}}

-- the words of a group, by the keys of its members
pub group-words : (hw : Hardware) (w : World) (format : ℕ) (leader : Key) → IsKept hw w → leads (post_at w) leader ≡ true
    → length (entry_at w leader).members ∷ times_of format (sums_in w (instance_at w leader).event) ++ flat_map (words_of_key format w) (entry_at w leader).members
    ≡ words_of_group format (sums_in w) (lost_in w) (group_at w leader)
group-words hw w format leader h lead = grind (arith, length-map, flat_map-map, group-members)

-- the words as they are added
pub joined-words : (format : ℕ) (f : Key → List ℕ) (keys all : List Key) (sums leads : Sums) (none first timed last : List ℕ) → none ≡ [] → first ≡ none ++ length keys ∷ []
    → timed ≡ first ++ times_of format sums → last ≡ timed ++ flat_map f keys → keys ≡ all → sums ≡ leads → last ≡ length all ∷ times_of format leads ++ flat_map f all
joined-words format f keys all sums leads none first timed last a b c d same has = grind arith

-- as many words for other sums and ids
asked-by : (b : Bool) (v u : ℕ) → length (if b then v ∷ [] else []) ≡ length (if b then u ∷ [] else [])
asked-by true v u = refl
asked-by false v u = refl

many-times : (format : ℕ) (s t : Sums) → length (times_of format s) ≡ length (times_of format t)
many-times format s t = grind (arith, length-append, asked-by)

many-marks : (format id lost other : ℕ) → length (marks_of format id lost) ≡ length (marks_of format id other)
many-marks format id lost other = grind (arith, length-append, asked-by)

many-members : (format : ℕ) (sums other : EventNo → Sums) (lost less : EventNo → ℕ) (is : List Instance)
    → length (flat_map (λ i. words_of_member format (sums i.event) i.id (lost i.event)) is) ≡ length (flat_map (λ i. words_of_member format (other i.event) i.id (less i.event)) is)
many-members format sums other lost less [] = refl
many-members format sums other lost less (x ∷ is) =
    length-append (words_of_member format (sums x.event) x.id (lost x.event)) (flat_map (λ i. words_of_member format (sums i.event) i.id (lost i.event)) is)
    ∙ ((λ j. suc (many-marks format x.id (lost x.event) (less x.event) j) + many-members format sums other lost less is j)
    ∙ sym (length-append (words_of_member format (other x.event) x.id (less x.event)) (flat_map (λ i. words_of_member format (other i.event) i.id (less i.event)) is)))

many-by : (b : Bool) (sums other : EventNo → Sums) (lost less : EventNo → ℕ) (g : Group) (i : Instance) → length (words_by b sums lost g i) ≡ length (words_by b other less g i)
many-by true sums other lost less g i = grind (arith, length-append, many-times, many-members)
many-by false sums other lost less g i = grind (arith, length-append, many-times, many-marks)

many-unless : (b : Bool) (xs ys : List ℕ) → length xs ≡ length ys → length (words_unless_error b xs) ≡ length (words_unless_error b ys)
many-unless true xs ys e = refl
many-unless false xs ys e = e

many-of : (sums other : EventNo → Sums) (lost less : EventNo → ℕ) (g : Option Group) (i : Option Instance) → length (read_words_of sums lost g i) ≡ length (read_words_of other less g i)
many-of sums other lost less (Some g) (Some i) = grind (arith, many-unless, many-by)
many-of sums other lost less (Some g) None = refl
many-of sums other lost less None i = refl

many-words : (sums : EventNo → Sums) (lost : EventNo → ℕ) (s : Stage) (e : EventNo) → length (read_words sums lost s e) ≡ word_count s e
unfolding read_words
many-words sums lost s e = many-of sums (λ f. record { count = 0; enabled = 0; running = 0 }) lost (λ f. 0) (group_of s e) (original_of s e)

-- the read of an event that is open, and its refusals
read-opened : (hw : Hardware) (w : World) (e : EventNo) (k : Key) → IsKept hw w → (family_of w e).original ≡ Some k
    → words_unless_error (is_error (state_in (group_at w (entry_at w k).leader) (instance_at w k))) (words_in (sums_in w) (lost_in w) (group_at w (entry_at w k).leader) (instance_at w k))
    ≡ read_words (sums_in w) (lost_in w) (stage_of w) e
unfolding read_words
read-opened hw w e k h is = sym ((λ i. read_words_of (sums_in w) (lost_in w) (group-by hw w e k h is i) (original-at hw w e k h is i)))

pub read-by : (hw : Hardware) (w : World) (e : EventNo) (k leader : Key) (words : List ℕ) → IsKept hw w → (family_of w e).original ≡ Some k → leader ≡ (entry_at w k).leader
    → words ≡ words_unless_error (is_error (state_in (group_at w leader) (instance_at w k))) (words_in (sums_in w) (lost_in w) (group_at w leader) (instance_at w k))
    → words ≡ read_words (sums_in w) (lost_in w) (stage_of w) e
read-by hw w e k leader words h is mine are = grind (arith, read-opened)

abbrev pub refusal_by : (opened short : Bool) → Option Reason
refusal_by opened short = first_of ((reason.NoEvent, not opened) ∷ (reason.NoSpace, short) ∷ [])

pub refuses-unopened : (hw : Hardware) (w : World) (e : EventNo) (size : Option ℕ) → IsKept hw w → (family_of w e).original ≡ None → read_refusal (stage_of w) e size ≡ Some reason.NoEvent
refuses-unopened hw w e size h is = ap (λ b. refusal_by b (holds_of (λ n. nat_lt n (8 * word_count (stage_of w) e)) size)) (is-open hw w e None h is)

refuses-short : (hw : Hardware) (w : World) (e : EventNo) (k : Key) (size : Option ℕ) (words : List ℕ) → IsKept hw w → (family_of w e).original ≡ Some k
    → words ≡ read_words (sums_in w) (lost_in w) (stage_of w) e → read_refusal (stage_of w) e size ≡ refusal_by true (holds_of (λ n. nat_lt n (8 * length words)) size)
refuses-short hw w e k size words h is are = grind (arith, is-open, many-words)

pub refuses-by : (hw : Hardware) (w : World) (e : EventNo) (k leader : Key) (size : Option ℕ) (words : List ℕ) (short b : Bool) → IsKept hw w → (family_of w e).original ≡ Some k
    → leader ≡ (entry_at w k).leader
    → words ≡ words_unless_error (is_error (state_in (group_at w leader) (instance_at w k))) (words_in (sums_in w) (lost_in w) (group_at w leader) (instance_at w k))
    → short ≡ holds_of (λ n. nat_lt n (8 * length words)) size → short ≡ b → read_refusal (stage_of w) e size ≡ refusal_by true b
refuses-by hw w e k leader size words short b h is mine are test holds =
    refuses-short hw w e k size words h is (read-by hw w e k leader words h is mine are) ∙ ap (refusal_by true) (sym test ∙ holds)
