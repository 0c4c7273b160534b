-- Bytes stand for an attribute exactly where they have no fault, and for one at most.
use Rattle.std.proofs.Common.{◌≡◌, ◌<◌, ◌≤◌, ℕ, ◌+◌, ◌-◌, inl, inr, ◌↔◌, Bool, true, false, not, cond, nat_eq, ◌||◌, List, ◌++◌, length, drop, get_or, Option, Some, None, refl, sym, ap, subst, ◌∙◌, arith, length-take, length-drop, length-append}
use Rattle.std.proofs.lemmas.Bool.{ltb-false, le-ltb, eqb-true, eq-eqb, ne_eqb, not-false, not_from_true, or_parts, or_from, or_left, or_right, or_cases, and_parts, and_from, cond-false, both_ways, not_from_false}
use Rattle.std.proofs.lemmas.{List.{get_or-take, get_or-drop, Folds.{list_any_none, list_any_at}}, Grind.{get_or_default_zero}}
use Rattle.std.specs.{Option.{option_or}, List.{list_any, slice_range, slice_index}}
use Rattle.attr_bytes.specs.declared.{raw.RawAttr.{RawAttr}, fault.AttrFault.{AttrFault}}
use Rattle.attr_bytes.specs.Layout.{number_at, type_in, size_in, config_in, sample_period_in, sample_type_in, read_format_in, flag_word_in, bp_type_in, config1_in, attr_size}
use Rattle.attr_bytes.specs.{Flags.{HasOnlyReadBits, flags_of_word}, Standing.{StandsFor, IsClass}}
use Rattle.attr_bytes.{specs.Faults.{has_unknown, frame_fault, field_fault, fault_of}, proofs.Numbers.{number_at-append}}

-- an element of a part
get_or-part : (bytes : List ℕ) (from to k : ℕ) → from + k < to → get_or (slice_range bytes from to) k 0 ≡ get_or bytes (from + k) 0
get_or-part bytes from to k high = grind (arith, get_or-take, drop, get_or-drop)

-- a part without a byte above 0 is 0 everywhere
zero_from_test : (bytes : List ℕ) (from to : ℕ) → to ≤ length bytes → list_any (λ byte. not (nat_eq byte 0)) (slice_range bytes from to) ≡ false → (k : ℕ) → from ≤ k → k < to → slice_index bytes k ≡ 0
zero_from_test bytes from to fits none k low high =
    let part : List ℕ = slice_range bytes from to in
    let within : k - from < length part = omega (arith, length-take (to - from) (drop from bytes), length-drop from bytes) in
    let same : get_or part (k - from) 0 ≡ get_or bytes k 0 = get_or-part bytes from to (k - from) (omega arith) ∙ ap (λ (x : ℕ). get_or bytes x 0) (omega arith) in
    grind (arith, get_or, both_ways, list_any_at, not, nat_eq, part, within, not_from_false, ne_eqb, same)

-- and the converse
test_from_zero : (bytes : List ℕ) (from to : ℕ) → ((k : ℕ) → from ≤ k → k < to → slice_index bytes k ≡ 0) → list_any (λ byte. not (nat_eq byte 0)) (slice_range bytes from to) ≡ false
test_from_zero bytes from to zeros =
    let part : List ℕ = slice_range bytes from to in
    list_any_none (λ byte. not (nat_eq byte 0)) part (λ k d within.
    let high : from + k < to = omega (arith, length-take (to - from) (drop from bytes)) in
    let zero : get_or part k d ≡ 0 = get_or_default_zero part k d within ∙ get_or-part bytes from to k high ∙ zeros (from + k) (omega arith) high in
    not_from_true _ (eq-eqb _ _ zero))

-- what the frame has where it has no fault
pub record IsFramed (bytes : List ℕ) : Type 0 where
  pub least : 64 ≤ attr_size bytes
  pub most : attr_size bytes ≤ 4096
  pub whole : attr_size bytes ≤ length bytes
  pub unknown : has_unknown bytes ≡ false

-- what the fields have where they have no fault
pub record AreFieldsRead (bytes : List ℕ) : Type 0 where
  pub class : IsClass (type_in bytes)
  pub read_bits : HasOnlyReadBits (flag_word_in bytes)
  pub bp_type : bp_type_in bytes ≡ 0
  pub config1 : config1_in bytes ≡ 0

-- a test that found no fault, and the tests after it
no_fault : (test : Bool) (fault : AttrFault) (others : Option AttrFault) → cond test (Some fault) others ≡ None → (test ≡ false) × (others ≡ None)
no_fault true fault others h = absurd (cc)
no_fault false fault others h = (refl, h)

-- the size field lies within the bytes
size_field_fits : (size length : ℕ) → 64 ≤ size → size ≤ length → 8 ≤ length
size_field_fits size length least whole = omega arith

pub IsFramed-none : (bytes : List ℕ) → IsFramed bytes → frame_fault bytes ≡ None
IsFramed-none bytes h = grind (arith, cond-false, le-ltb, length, size_field_fits, or_from)

pub none-IsFramed : (bytes : List ℕ) → frame_fault bytes ≡ None → IsFramed bytes
none-IsFramed bytes h = grind (arith, no_fault, ltb-false, or_parts, length)

-- the test of the type
test-IsClass : (n : ℕ) → IsClass n → (nat_eq n 0 || nat_eq n 1 || nat_eq n 4) ≡ true
test-IsClass n (inl e) = or_left _ _ (or_left _ _ (eq-eqb _ _ e))
test-IsClass n (inr (inl e)) = or_left _ _ (or_right _ _ (eq-eqb _ _ e))
test-IsClass n (inr (inr e)) = or_right _ _ (eq-eqb _ _ e)

IsClass-test : (n : ℕ) → (nat_eq n 0 || nat_eq n 1 || nat_eq n 4) ≡ true → IsClass n
IsClass-test n h = grind (arith, or_cases, eqb-true)

pub AreFieldsRead-none : (bytes : List ℕ) → AreFieldsRead bytes → field_fault bytes ≡ None
AreFieldsRead-none bytes h = grind (arith, cond-false, not_from_true, test-IsClass, eq-eqb, and_from)

pub none-AreFieldsRead : (bytes : List ℕ) → field_fault bytes ≡ None → AreFieldsRead bytes
none-AreFieldsRead bytes h = grind (arith, no_fault, and_parts, not-false, IsClass-test, eqb-true)

-- what stands for an attribute has no fault
pub StandsFor-IsFramed : (bytes : List ℕ) (raw : RawAttr) → StandsFor bytes raw → IsFramed bytes
StandsFor-IsFramed bytes raw h = search (test_from_zero)

pub StandsFor-AreFieldsRead : (bytes : List ℕ) (raw : RawAttr) → StandsFor bytes raw → AreFieldsRead bytes
StandsFor-AreFieldsRead bytes raw h = grind (arith, ℕ)

-- what has no fault stands for the attribute that its fields give
pub stands_from_fields : (bytes : List ℕ) (raw : RawAttr) → IsFramed bytes → AreFieldsRead bytes → raw.class ≡ type_in bytes → raw.config ≡ config_in bytes → raw.period ≡ sample_period_in bytes → raw.sample ≡ sample_type_in bytes → raw.format ≡ read_format_in bytes → raw.flags.0 ≡ flags_of_word (flag_word_in bytes) → StandsFor bytes raw
stands_from_fields bytes raw frame fields class config period sample format flags = record {
  least_size = frame.least;
  most_size = frame.most;
  whole = frame.whole;
  unknown = zero_from_test bytes 64 (attr_size bytes) frame.whole frame.unknown;
  class = class;
  is_class = let P : ℕ → Type 0 = λ n. IsClass n in subst P (sym class) fields.class;
  config = config;
  period = period;
  sample = sample;
  format = format;
  read_bits = fields.read_bits;
  flags = flags;
  bp_type = fields.bp_type;
  config1 = fields.config1;
}

-- two attributes with the same fields
same_fields : (class class' config config' period period' sample sample' format format' flags flags' : ℕ) → class ≡ class' → config ≡ config' → period ≡ period' → sample ≡ sample' → format ≡ format' → flags ≡ flags'
    → ◌≡◌ {A = RawAttr} (record { class = class; config = config; period = period; sample = sample; format = format; flags = record { 0 = flags } }) (record { class = class'; config = config'; period = period'; sample = sample'; format = format'; flags = record { 0 = flags' } })
same_fields class class' config config' period period' sample sample' format format' flags flags' a b c d e f = rw (a, b, c, d, e, f) refl

-- bytes stand for one attribute at most
pub StandsFor-one : (bytes : List ℕ) (a b : RawAttr) → StandsFor bytes a → StandsFor bytes b → a ≡ b
StandsFor-one bytes a b p q = grind (arith, same_fields)

-- the first of two faults is none where both are, and only there
both_none : (a b : Option AttrFault) → option_or a b ≡ None → (a ≡ None) × (b ≡ None)
both_none None b h = (refl, h)
both_none (Some fault) b h = absurd (cc)

pub none_of_both : (a b : Option AttrFault) → a ≡ None → b ≡ None → option_or a b ≡ None
none_of_both a b p q = rw (p, q) refl

-- bytes stand for some attribute exactly where they have no fault
pub StandsFor-iff-no_fault : (bytes : List ℕ) → ((raw : RawAttr) × StandsFor bytes raw) ↔ (fault_of bytes ≡ None)
StandsFor-iff-no_fault bytes =
    let raw : RawAttr = record {
      class = type_in bytes;
      config = config_in bytes;
      period = sample_period_in bytes;
      sample = sample_type_in bytes;
      format = read_format_in bytes;
      flags = record { 0 = flags_of_word (flag_word_in bytes) };
    } in (
      (λ standing. none_of_both _ _ (IsFramed-none bytes (StandsFor-IsFramed bytes standing.0 standing.1)) (AreFieldsRead-none bytes (StandsFor-AreFieldsRead bytes standing.0 standing.1))),
      (λ none.
          let parts = both_none _ _ none in
          (raw, stands_from_fields bytes raw (none-IsFramed bytes parts.0) (none-AreFieldsRead bytes parts.1) refl refl refl refl refl refl)),
    )

-- the fields of the bytes that are written
pub record IsWritten (words : List ℕ) (raw : RawAttr) : Type 0 where
  pub length : length words ≡ 64
  pub class : type_in words ≡ raw.class
  pub size : size_in words ≡ 64
  pub config : config_in words ≡ raw.config
  pub period : sample_period_in words ≡ raw.period
  pub sample : sample_type_in words ≡ raw.sample
  pub format : read_format_in words ≡ raw.format
  pub read_bits : HasOnlyReadBits (flag_word_in words)
  pub flags : flags_of_word (flag_word_in words) ≡ raw.flags.0
  pub bp_type : bp_type_in words ≡ 0
  pub config1 : config1_in words ≡ 0

-- they stand for the attribute, whatever follows
pub IsWritten-StandsFor : (words : List ℕ) (raw : RawAttr) → IsWritten words raw → IsClass raw.class → (more : List ℕ) → StandsFor (words ++ more) raw
IsWritten-StandsFor words raw h class more =
    let same : (offset width : ℕ) → offset + width ≤ 64 → number_at offset width (words ++ more) ≡ number_at offset width words =
    λ offset width fits. number_at-append offset width words more (omega (arith, h.length)) in
    let size : attr_size (words ++ more) ≡ 64 = rw (same 4 4 (omega arith), h.size) refl in
    let word : flag_word_in (words ++ more) ≡ flag_word_in words = same 40 8 (omega arith) in
    grind (arith, size, length-append, same, word)
