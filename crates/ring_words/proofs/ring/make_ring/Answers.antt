use Rattle.std.proofs.Common.{rules, ◌≡◌, ap, ◌∙◌}
use Rattle.ring_words.{specs.{declared.view.View.{View}, Views.{Holder, both_ends, producer_of, consumer_of}}, proofs.Parting.{may_part, starts}}
use Rattle.ring_words.proofs.Sound.{producer_starts, producer_holds, consumer_starts}
use Rattle.ring_words.proofs.ring.make_ring.Goals as goal

pub of_words-requires : goal.of_words-requires
of_words-requires c = starts _ c.requires _ (search rules)

pub split_seat-other-requires : goal.split_seat-other-requires
split_seat-other-requires c =
    let start : c.in_ok-table.seat.me.0 ≡ both_ends c.args.bytes = ap (λ (m : Holder). m.0) c.in_ok-table.ensures.4 in
    (search rules, search rules, may_part _ _ _ (ap (λ (v : View). v.writes) start) (ap (λ (v : View). v.reads) start))

pub returns-clause-producer : goal.returns-clause-producer
returns-clause-producer c =
    let start : c.in_ok-table.seat.me.0 ≡ both_ends c.args.bytes = ap (λ (m : Holder). m.0) c.in_ok-table.ensures.4 in
    let is : c.split_seat-other.new.seat.me.0 ≡ producer_of c.in_ok-table.seat.me.0 = ap (λ (m : Holder). m.0) c.split_seat-other.ensures.2 in
    producer_starts c.in_ok-table.table.shared.table_id c.args.bytes (search rules) c.requires c.split_seat-other.new.seat.table_id c.split_seat-other.new.seat.me.0 (search rules) (is ∙ ap producer_of start)

pub returns-clause-consumer : goal.returns-clause-consumer
returns-clause-consumer c =
    let start : c.in_ok-table.seat.me.0 ≡ both_ends c.args.bytes = ap (λ (m : Holder). m.0) c.in_ok-table.ensures.4 in
    let is : c.split_seat-other.result.me.0 ≡ consumer_of c.in_ok-table.seat.me.0 = ap (λ (m : Holder). m.0) c.split_seat-other.ensures.4 in
    consumer_starts c.in_ok-table.table.shared.table_id c.args.bytes (search rules) c.requires c.split_seat-other.result.table_id c.split_seat-other.result.me.0 (search rules) (is ∙ ap consumer_of start)

pub invariant_of-result-2 : goal.invariant_of-result-2
invariant_of-result-2 c =
    let start : c.in_ok-table.seat.me.0 ≡ both_ends c.args.bytes = ap (λ (m : Holder). m.0) c.in_ok-table.ensures.4 in
    let is : c.split_seat-other.new.seat.me.0 ≡ producer_of c.in_ok-table.seat.me.0 = ap (λ (m : Holder). m.0) c.split_seat-other.ensures.2 in
    producer_holds c.in_ok-table.table.shared.table_id c.args.bytes (search rules) c.requires c.split_seat-other.new.seat.table_id c.split_seat-other.new.seat.me (search rules) (is ∙ ap producer_of start) (search rules)
