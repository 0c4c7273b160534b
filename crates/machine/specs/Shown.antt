-- inner
-- What an end that sends shows of its account. This project's own profile.
use Rattle.std.specs.Prelude.{◌≡◌, length}
use Rattle.perf_base.specs.declared.numbers.RingNo.{RingNo}
use Rattle.ring_spec.specs.{Account.{Account, head_of}, Records.{words_of}, Running.{RingAccount}}
use Rattle.ring_words.specs.Ends.{head_place}
use Rattle.sample_ring.specs.OutEnds.{OutEnd}
use Rattle.work_account.specs.Ends.{IsAccountOf}

-- The places of its head and of the last tail seen, its counts of records lost and pending, and the words that it has
-- published are those of an account.
pub record ShowsAccount (o : OutEnd) (a : Account) : Type 0 where
  pub head : head_of a ≡ head_place o.producer
  pub tail : a.tail ≡ o.producer.last_tail
  pub lost : length a.lost ≡ o.lost
  pub pending : a.pending ≡ o.pending
  pub words : words_of a.written ≡ o.producer.published

-- Between two calls an end shows its account.
abbrev pub HeadLaw : Type 0
HeadLaw = (n : RingNo) (o : OutEnd) (a : RingAccount) → IsAccountOf n o a → ShowsAccount o a.account
