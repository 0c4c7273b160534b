-- What a record more leaves at the end that takes records.
use Rattle.std.proofs.Common.{◌≡◌, ℕ, ◌+◌, ◌*◌, ◌≤◌, List, [], ◌∷◌, ◌++◌, Option, None, length, sym, ap, ◌∙◌, subst, append_assoc, append-nil, length-append, arith}
use Rattle.std.{proofs.lemmas.List.{Elements.{All-append, All-cons, All-nil}, Folds.{concat-append}}, specs.List.{concat}}
use mathlib.Core.List.{IsPrefix}
use Rattle.ring_spec.specs.Whole.{size_field, IsBlock, IsWhole}
use Rattle.ring_words.{specs.Ends.{IsSoundConsumer}}
use Rattle.sample_ring.specs.{InEnds.{InEnd, AreRecords, kept_words, IsSoundIn}, Ins.{HoldsIn}}

-- the words taken are whole where none is kept
pub taken_words : (i : InEnd) → IsSoundIn i → i.kept ≡ None → i.consumer.taken ≡ i.words
taken_words i s kept = s.taken ∙ (ap (λ (k : Option ℕ). i.words ++ kept_words k) kept ∙ append-nil i.words)

pub whole_words : (i : InEnd) → IsSoundIn i → IsWhole i.words
whole_words i s = (s.records.0, s.records.1, s.records.2)

pub whole_taken : (i : InEnd) → IsSoundIn i → i.kept ≡ None → IsWhole i.consumer.taken
whole_taken i s kept = subst IsWhole (sym (taken_words i s kept)) (whole_words i s)

-- one block more
pub one_record_more : (words : List ℕ) (n first : ℕ) (more : List ℕ) → AreRecords words n → IsBlock (first ∷ more) → AreRecords (words ++ first ∷ more) (n + 1)
one_record_more words n first more r block = (
  r.0 ++ (first ∷ more) ∷ [],
  All-append IsBlock r.0 ((first ∷ more) ∷ []) r.1 (All-cons IsBlock (first ∷ more) [] block (All-nil IsBlock)),
  concat-append r.0 ((first ∷ more) ∷ []) ∙ (ap (λ (l : List ℕ). l ++ concat ((first ∷ more) ∷ [])) r.2 ∙ ap (λ (l : List ℕ). words ++ l) (append-nil (first ∷ more))),
  length-append r.0 ((first ∷ more) ∷ []) ∙ ap (λ (k : ℕ). k + 1) r.3,
)

pub holds_more : (i : InEnd) (capacity place first : ℕ) (words : List ℕ) → HoldsIn i capacity place → i.kept ≡ None → IsPrefix (i.words ++ first ∷ []) words
    → 8 * length words ≡ 8 * length i.words + size_field first → length words ≤ i.room → IsSoundConsumer (record i.consumer { taken = words })
    → HoldsIn (record i { consumer = record i.consumer { taken = words }; words = words; records = i.records + 1 }) capacity place
holds_more i capacity place first words h kept p size within sound =
    let joined : i.words ++ first ∷ p.0 ≡ words = sym (append_assoc i.words (first ∷ []) p.0) ∙ p.1 in
    let long : length words ≡ length i.words + length (first ∷ p.0) = sym (ap length joined) ∙ length-append i.words (first ∷ p.0) in
    let block : IsBlock (first ∷ p.0) = omega (arith, size, long) in
    record {
      sound = record {
        consumer = sound;
        taken = sym (append-nil words) ∙ ap (λ (k : Option ℕ). words ++ kept_words k) (sym kept);
        records = let P : List ℕ → Type 0 = λ l. AreRecords l (i.records + 1) in subst P joined (one_record_more i.words i.records first p.0 h.sound.records block);
        within = within;
        kept = λ other e. absurd (cc);
        released = omega (arith, h.sound.released, long);
      };
      fits = h.fits;
      released = h.released;
      few = omega (arith, h.few, long);
    }
