-- Each line of the script of N rounds is in its ranges and of its type.
use Rattle.std.proofs.Common.{◌≡◌, ℕ, ◌*◌, ◌<◌, ◌≤◌, ◌++◌, length, All, refl, arith}
use Rattle.std.proofs.lemmas.List.Elements.{All-from_recursion, All-cons, All-replicate, All-append}
use Rattle.std.{proofs.lemmas.List.FromFn.{length-map-range_with_len, get_or-map-range_with_len}}
use Rattle.perf_base.specs.Scripts.{IsCpuLine, IsToolLine, IsStoredWork, IsStoredToolLine, IsRingLine, IsReaderLine, HasRing}
use Rattle.work_maker.specs.Rounds.{for_each, for_each_all, made_ring, made_reader, made_hits, round_lines, processor_lines, sampling_lines, counting_lines, read_line, first_lines, last_lines}
use Rattle.work_maker.proofs.ForEach.{all_for_each, all_for_each_all, length_of_fours}

hits_few : (p i : ℕ) → All (λ n. n ≤ 1000000000) (made_hits p i)
hits_few p i = grind (arith, All-cons, All-append, All-from_recursion, All-replicate)

-- the lines of a round
pub round_fits : (p i : ℕ) → All (IsCpuLine 4) (round_lines p i)
round_fits p i = grind (arith, All-from_recursion, length, hits_few, All-replicate)

pub round_stored : (p i : ℕ) → i < 1000 → All IsStoredWork (round_lines p i)
round_stored p i l = All-from_recursion IsStoredWork (round_lines p i) (tt, ((omega arith, refl), (tt, (tt, tt))))

pub processor_fits : (n p : ℕ) → All (IsCpuLine 4) (processor_lines n p)
processor_fits n p = all_for_each_all (IsCpuLine 4) (round_lines p) n (λ i l. round_fits p i)

pub processor_stored : (n p : ℕ) → n ≤ 1000 → All IsStoredWork (processor_lines n p)
processor_stored n p few = all_for_each_all IsStoredWork (round_lines p) n (λ i l. round_stored p i (omega arith))

pub processor_length : (n p : ℕ) → length (processor_lines n p) ≡ 4 * n
processor_length n p = length_of_fours (round_lines p) (λ i. refl) n

-- the rings and their readers
pub ring_fits : (r : ℕ) → r < 4 → IsRingLine (made_ring r)
ring_fits r l = (omega arith, (12, omega arith, omega arith, refl))

pub has_ring : (n r : ℕ) → r < n → HasRing (for_each n made_ring) (record { 0 = r })
has_ring n r l = (r, made_ring r, omega (arith, length-map-range_with_len made_ring 0 n), get_or-map-range_with_len made_ring 0 n r r (made_ring r) l (omega arith), refl)

pub reader_fits : (n r : ℕ) → r < n → IsReaderLine (for_each n made_ring) (made_reader r)
reader_fits n r l = record { ring = has_ring n r l; tries = (omega arith, omega arith); batch = (omega arith, omega arith) }

-- the lines of the tool
pub sampling_fits : (p : ℕ) → p < 4 → All (IsToolLine 4 4 (for_each 4 made_ring)) (sampling_lines p)
sampling_fits p l = All-from_recursion (IsToolLine 4 4 (for_each 4 made_ring)) (sampling_lines p)
    ((omega arith, record { kind = omega arith; task = tt; cpu = l; flags = omega arith }, tt), ((omega arith, has_ring 4 p l), tt))

pub counting_fits : (t : ℕ) → t < 4 → All (IsToolLine 4 4 (for_each 4 made_ring)) (counting_lines t)
counting_fits t l = grind (arith, All-from_recursion)

pub tool_fits : All (IsToolLine 4 4 (for_each 4 made_ring)) (first_lines ++ last_lines)
tool_fits =
    let Fits = IsToolLine 4 4 (for_each 4 made_ring) in
    All-append Fits first_lines last_lines
    (All-append Fits (for_each_all 4 sampling_lines) (for_each_all 4 counting_lines) (all_for_each_all Fits sampling_lines 4 sampling_fits) (all_for_each_all Fits counting_lines 4 counting_fits))
    (all_for_each Fits read_line 16 (λ e l. omega arith))

sampling_stored : (p : ℕ) → All IsStoredToolLine (sampling_lines p)
sampling_stored p = All-from_recursion IsStoredToolLine (sampling_lines p) ((omega arith, omega arith, omega arith), (tt, tt))

counting_stored : (t : ℕ) → All IsStoredToolLine (counting_lines t)
counting_stored t = All-from_recursion IsStoredToolLine (counting_lines t) ((omega arith, omega arith, omega arith), ((omega arith, omega arith, omega arith), ((omega arith, omega arith, omega arith), tt)))

pub tool_stored : All IsStoredToolLine (first_lines ++ last_lines)
tool_stored =
    All-append IsStoredToolLine first_lines last_lines
    (All-append IsStoredToolLine (for_each_all 4 sampling_lines) (for_each_all 4 counting_lines)
    (all_for_each_all IsStoredToolLine sampling_lines 4 (λ p l. sampling_stored p)) (all_for_each_all IsStoredToolLine counting_lines 4 (λ t l. counting_stored t)))
    (all_for_each IsStoredToolLine read_line 16 (λ e l. tt))
