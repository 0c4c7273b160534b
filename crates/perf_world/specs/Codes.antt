-- inner
-- How the value of a world is stored: as the tuple of its parts. This project's own profile.
use Rattle.std.specs.{Prelude.{ℕ, List, Option, refl}, Coded.{Coded, code_by, coded×, coded_ℕ, coded_list, coded_option}, FinMap.{FinMap, code}}
use Rattle.std.specs.Ordering.{nat_cmp}
use Rattle.perf_base.specs.contracts.numbers.{EventNo.{the_row as event_row}, Key.{the_row as key_row}, RingNo.{the_row as ring_row}}
use Rattle.perf_base.specs.contracts.{numbers.TaskNo.{the_row as task_row}, reply.Sums.{the_row as sums_row}}
use Rattle.perf_base.specs.{contracts.standing.Standing.{the_row as standing_row}, declared.numbers.{EventNo.{EventNo}, Key.{Key}, RingNo.{RingNo}}}
use Rattle.perf_base.specs.declared.{numbers.TaskNo.{TaskNo}, reply.Sums.{Sums}, standing.Standing.{Standing}}
use Rattle.stage_spec.specs.{contracts.instance.TaskStatus.{the_row as status_row}, declared.instance.TaskStatus.{TaskStatus}, Hardware.{Hardware}}
use Rattle.counter_match.specs.Seating.{Seated}
use Rattle.world_spec.specs.Value.{World, Entry, Account, Leaders, Family, Totals, Quiet}
use Rattle.world_tables.specs.Codes.{entry_code, account_code, totals_code}

abbrev pub hardware_code : Coded Hardware
hardware_code =
    code_by
    (List ℕ × (List ℕ × (List ℕ × List ℕ)))
    (coded× (coded_list coded_ℕ) (coded× (coded_list coded_ℕ) (coded× (coded_list coded_ℕ) (coded_list coded_ℕ))))
    (λ h. (h.cpu_pmus, (h.counters, (h.kind_pmus, h.masks))))
    (λ p. record { cpu_pmus = p.0; counters = p.1.0; kind_pmus = p.1.1.0; masks = p.1.1.1 })
    (λ _. refl)

abbrev pub leaders_code : Coded Leaders
leaders_code =
    code_by (List Key × List Key) (coded× (coded_list key_row.coded) (coded_list key_row.coded))
    (λ l. (l.pinned, l.flexible)) (λ p. record { pinned = p.0; flexible = p.1 }) (λ _. refl)

abbrev pub family_code : Coded Family
family_code =
    code_by (Option Key × List Key) (coded× (coded_option key_row.coded) (coded_list key_row.coded))
    (λ f. (f.original, f.copies)) (λ p. record { original = p.0; copies = p.1 }) (λ _. refl)

abbrev pub seated_code : Coded Seated
seated_code =
    code_by (ℕ × (List (EventNo × ℕ) × List ℕ)) (coded× coded_ℕ (coded× (coded_list (coded× event_row.coded coded_ℕ)) (coded_list coded_ℕ)))
    (λ s. (s.counters, (s.events, s.seats))) (λ p. record { counters = p.0; events = p.1.0; seats = p.1.1 }) (λ _. refl)

abbrev pub quiet_code : Coded Quiet
quiet_code =
    code_by
    (List TaskStatus × (List (Option TaskNo) × (List ℕ × (List Totals × (List Seated × (List EventNo × (List RingNo × ℕ)))))))
    (coded× (coded_list status_row.coded) (coded× (coded_list (coded_option task_row.coded)) (coded× (coded_list coded_ℕ)
    (coded× (coded_list totals_code) (coded× (coded_list seated_code) (coded× (coded_list event_row.coded) (coded× (coded_list ring_row.coded) coded_ℕ)))))))
    (λ q. (q.tasks, (q.running, (q.clocks, (q.totals, (q.seats, (q.used, (q.mapped, q.next_id))))))))
    (λ p. record {
      tasks = p.0;
      running = p.1.0;
      clocks = p.1.1.0;
      totals = p.1.1.1.0;
      seats = p.1.1.1.1.0;
      used = p.1.1.1.1.1.0;
      mapped = p.1.1.1.1.1.1.0;
      next_id = p.1.1.1.1.1.1.1;
    })
    (λ _. refl)

abbrev pub world_code : Coded World
world_code =
    code_by
    (Hardware × (FinMap nat_cmp Entry × (FinMap nat_cmp Account × (FinMap nat_cmp Standing × (List Leaders × (List Family × (List Sums × (List ℕ × Quiet))))))))
    (coded× hardware_code (coded× (code coded_ℕ entry_code) (coded× (code coded_ℕ account_code) (coded× (code coded_ℕ standing_row.coded)
    (coded× (coded_list leaders_code) (coded× (coded_list family_code) (coded× (coded_list sums_row.coded) (coded× (coded_list coded_ℕ) quiet_code))))))))
    (λ w. (w.hardware, (w.entries, (w.accounts, (w.standings, (w.contexts, (w.families, (w.folded, (w.lost, w.quiet)))))))))
    (λ p. record {
      hardware = p.0;
      entries = p.1.0;
      accounts = p.1.1.0;
      standings = p.1.1.1.0;
      contexts = p.1.1.1.1.0;
      families = p.1.1.1.1.1.0;
      folded = p.1.1.1.1.1.1.0;
      lost = p.1.1.1.1.1.1.1.0;
      quiet = p.1.1.1.1.1.1.1.1;
    })
    (λ _. refl)
