-- believed
-- What the report of a made script sums up to, and the lines that say it. This project's own profile.
use Rattle.std.specs.Prelude.{ℕ, List, ◌++◌, codes, decimal, length, slice_index, sum_by}
use Rattle.perf_base.specs.{declared.{numbers.RingNo.{RingNo}, reply.{Reply.{Reply}, Answer.{Answer}}}, Scripts.{Scripted, line_count}}
use Rattle.perf_base.specs.declared.reply.Reply.TheVariants as reply
use Rattle.ring_spec.specs.Account.{Account}
use Rattle.run_end.specs.Ended.{Ran, words_in}
use Rattle.report.specs.{Told.{cut_records}, declared.summary.Totals.{Totals}}

-- the first word of a read: the event's count, or how many members a group has that is read whole (perf_event_open(2));
-- 0 of a read of no word, which an event in effective error gives, and of any other answer
abbrev pub first_word : Reply → ℕ
first_word (reply.Read words) = slice_index words 0
first_word r = 0

-- how many lines the script has, the first words of all reads, added up, and how many records were written and lost on
-- all rings: LOST records are among those written, and losses that none of them has stated are among those lost
abbrev pub totals_of : Scripted → List Answer → List (RingNo × Account) → Totals
totals_of s answers rings = record {
  lines = line_count s;
  sum = sum_by (λ a. first_word a.reply) answers;
  records = sum_by (λ r. length r.1.written) rings;
  lost = sum_by (λ r. length r.1.lost) rings;
}

-- the same of what is left of a run, by the numbers and the words of its rings
abbrev pub ran_totals : Ran → Totals
ran_totals r = record {
  lines = line_count r.script;
  sum = sum_by (λ a. first_word a.reply) r.answers;
  records = sum_by (λ e. length (cut_records (words_in r.ins e.ring))) r.ends;
  lost = sum_by (λ e. e.numbers.lost) r.ends;
}

-- the line of a number: a word that ends in a space, the number in decimal, and LF
abbrev pub number_line : List ℕ → ℕ → List ℕ
number_line word n = word ++ decimal n ++ codes "\n"

-- the lines of a summary
abbrev pub summary_text : (rounds : ℕ) → Totals → List ℕ
summary_text rounds t = number_line (codes "make ") rounds ++ (number_line (codes "lines ") t.lines ++ (number_line (codes "sum ") t.sum
    ++ (number_line (codes "records ") t.records ++ (number_line (codes "lost ") t.lost ++ codes "end\n"))))
