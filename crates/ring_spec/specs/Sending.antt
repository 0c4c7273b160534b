-- believed
-- Which records a step sends, and to which ring. After __perf_event_overflow, perf_output_sample and
-- perf_event_header__init_id of kernel/events/core.c, and __perf_output_begin of kernel/events/ring_buffer.c, where
-- records of an event without a ring are dropped and a LOST record has the original's ids too. The order of the records
-- of one stretch of work, and that a copy's sample has its own STREAM_ID behind a LOST record, too, are this project's
-- own profile.
use Rattle.std.specs.Prelude.{ℕ, ◌+◌, ◌==◌, Bool, true, false, List, [], ◌∷◌, ◌++◌, replicate, flat_map, sum_by, Option, Some, None, if◌then◌else◌}
use Rattle.perf_base.specs.FlatMaps.{flat_map_after}
use Rattle.perf_base.specs.declared.{numbers.{CpuNo.{CpuNo}, EventNo.{EventNo}, RingNo.{RingNo}, TaskNo.{TaskNo}}, attr.Attr.{Attr}}
use Rattle.perf_base.specs.declared.lines.{Mode.{Mode}, Work.{Work}, CpuLine.{CpuLine}}
use Rattle.perf_base.specs.declared.lines.CpuLine.TheVariants as cpu_line
use Rattle.perf_base.specs.Flags as flags
use Rattle.stage_spec.specs.{declared.instance.Instance.{Instance}, Hardware.{Hardware}, Stage.{Stage, original_of, task_on}, Verdict.{on_instances}}
use Rattle.stage_spec.specs.{History.{Step, CpuStep, ToolStep, SeenStep, stage_after}, Shares.{work_hits}, Occurrences.{overflows}}
use Rattle.stage_spec.specs.Remainders.{remainder_of}
use Rattle.ring_spec.specs.{declared.fields.Fields.{Fields}, Records.{body_of, trailer_of}}

-- a sample that is sent: the original whose it is, by slot and id, what the sample says, and the trailer of a LOST
-- record before it
pub record SentSample : Type 0 where
  pub event : EventNo
  pub id : ℕ
  pub mode : Mode
  pub body : List ℕ
  pub trailer : List ℕ

-- the clock of a processor: the lengths of its work, added up
abbrev pub length_by : CpuNo → Step → ℕ
length_by cpu (CpuStep other (cpu_line.Work w)) = if other.0 == cpu.0 then w.length else 0
length_by cpu _ = 0

abbrev pub clock_of : List Step → CpuNo → ℕ
clock_of steps cpu = sum_by (length_by cpu) steps

-- the number of the process that is on a processor, from 1; 0 while it is idle
abbrev pub process_of : Option TaskNo → ℕ
process_of None = 0
process_of (Some task) = task.0 + 1

-- What a sample of an instance can say, by its original's id, the line, and the clock after the line.
abbrev pub fields_of : Stage → CpuNo → Work → (clock id : ℕ) → Instance → Fields
fields_of s cpu w clock id i = record {
  identifier = id;
  ip = w.ip;
  pid = process_of (task_on s cpu);
  tid = process_of (task_on s cpu);
  time = clock;
  id = id;
  stream_id = i.id;
  cpu = cpu.0;
  period = i.attr.period;
}

-- sample_id_all, the flag of an original that gives its LOST records a trailer
abbrev pub has_trailer : Attr → Bool
has_trailer a = flags.identifies_all a.flags

abbrev pub trailer_if : Bool → ℕ → Fields → List ℕ
trailer_if true sample f = trailer_of sample f
trailer_if false sample f = []

-- the record of an overflow; the trailer has the original's id as STREAM_ID too
abbrev pub sent_of : Instance → Work → Instance → Fields → SentSample
sent_of original w i f = record {
  event = original.event;
  id = original.id;
  mode = w.mode;
  body = body_of i.attr.sample f;
  trailer = trailer_if (has_trailer original.attr) original.attr.sample (record f { stream_id = original.id });
}

-- one record for each overflow, to the ring of the original; none where it has no ring
abbrev pub to_ring : Option RingNo → ℕ → SentSample → List (RingNo × SentSample)
to_ring None n sent = []
to_ring (Some ring) n sent = replicate n (ring, sent)

abbrev pub sent_by_family : Option Instance → Stage → CpuNo → Work → (clock count : ℕ) → Instance → List (RingNo × SentSample)
sent_by_family None s cpu w clock count i = []
sent_by_family (Some original) s cpu w clock count i = to_ring original.ring count (sent_of original w i (fields_of s cpu w clock original.id i))

-- the overflows of a stretch of work, its occurrences taken one by one from the remainder before it
abbrev pub overflows_by : Work → ℕ → Instance → ℕ
overflows_by w left i = overflows (work_hits w i) i.attr.period left

-- A stretch of work sends the records of each instance that is on, in pass order, those of one before those of the
-- next.
abbrev pub sent_at : Hardware → Stage → (left : ℕ → ℕ) → (clock : ℕ) → CpuNo → Work → List (RingNo × SentSample)
sent_at hw s left clock cpu w = flat_map (λ i. sent_by_family (original_of s i.event) s cpu w clock (overflows_by w (left i.id) i) i) (on_instances hw s cpu)

abbrev pub sent_by_line : Hardware → Stage → (left : ℕ → ℕ) → (clock : ℕ) → CpuNo → CpuLine → List (RingNo × SentSample)
sent_by_line hw s left clock cpu (cpu_line.Switch to) = []
sent_by_line hw s left clock cpu (cpu_line.Work w) = sent_at hw s left (clock + w.length) cpu w
sent_by_line hw s left clock cpu cpu_line.Tick = []
sent_by_line hw s left clock cpu (cpu_line.Fork child) = []
sent_by_line hw s left clock cpu cpu_line.Exit = []

-- the records that a step sends at a stage, given each instance's remainder and each processor's clock before it
abbrev pub sent_by_step : Hardware → Stage → (left : ℕ → ℕ) → (clock : CpuNo → ℕ) → Step → List (RingNo × SentSample)
sent_by_step hw s left clock (CpuStep cpu line) = sent_by_line hw s left (clock cpu) cpu line
sent_by_step hw s left clock (ToolStep line) = []
sent_by_step hw s left clock (SeenStep ring place) = []

-- the records that a step sends after some steps, the first of them at a stage
unfoldable pub sent_after : Hardware → Stage → (before : List Step) → Step → List (RingNo × SentSample)
sent_after hw s before x = sent_by_step hw (stage_after hw s before) (remainder_of hw s before) (clock_of before) x

-- the records that steps send, the first of them after some others
unfoldable pub sent_from : Hardware → Stage → (before steps : List Step) → List (RingNo × SentSample)
sent_from hw s before steps = flat_map_after (sent_after hw s) before steps

-- the records that steps send, the first of which is at a stage
abbrev pub sent_by_steps : Hardware → Stage → List Step → List (RingNo × SentSample)
sent_by_steps hw s steps = sent_from hw s [] steps
