-- inner
-- How the values of the tables are stored: each as the tuple of its parts. This project's own profile.
use Rattle.std.specs.{Prelude.{ℕ, Bool, List, refl}, Coded.{Coded, code_by, coded×, coded_ℕ, coded_bool, coded_list}, FinMap.{FinMap, code}}
use Rattle.std.specs.Ordering.{nat_cmp}
use Rattle.perf_base.specs.contracts.{numbers.{CpuNo.{the_row as cpu_row}, Key.{the_row as key_row}}, reply.Sums.{the_row as sums_row}}
use Rattle.perf_base.specs.{contracts.standing.{Context.{the_row as context_row}, Standing.{the_row as standing_row}}, declared.numbers.CpuNo.{CpuNo}}
use Rattle.perf_base.specs.declared.{numbers.Key.{Key}, reply.Sums.{Sums}, standing.{Context.{Context}, Standing.{Standing}}}
use Rattle.stage_spec.specs.{contracts.instance.Instance.{the_row as instance_row}, declared.instance.Instance.{Instance}}
use Rattle.world_spec.specs.{Value.{Entry, Account, Totals}, Ways.{Way}}
use Rattle.world_tables.specs.Columns.{Columns}

abbrev pub entry_code : Coded Entry
entry_code =
    code_by
    (Instance × (Context × (Key × (List Key × Bool))))
    (coded× instance_row.coded (coded× context_row.coded (coded× key_row.coded (coded× (coded_list key_row.coded) coded_bool))))
    (λ e. (e.instance, (e.context, (e.leader, (e.members, e.pinned)))))
    (λ p. record { instance = p.0; context = p.1.0; leader = p.1.1.0; members = p.1.1.1.0; pinned = p.1.1.1.1 })
    (λ _. refl)

abbrev pub account_code : Coded Account
account_code = code_by (Sums × ℕ) (coded× sums_row.coded coded_ℕ) (λ a. (a.sums, a.left)) (λ p. record { sums = p.0; left = p.1 }) (λ _. refl)

abbrev pub way_code : Coded Way
way_code = code_by (CpuNo × (Bool × Bool)) (coded× cpu_row.coded (coded× coded_bool coded_bool)) (λ w. (w.cpu, (w.ready, w.on)))
    (λ p. record { cpu = p.0; ready = p.1.0; on = p.1.1 })
    (λ _. refl)

abbrev pub totals_code : Coded Totals
totals_code = code_by (List ℕ × List ℕ) (coded× (coded_list coded_ℕ) (coded_list coded_ℕ)) (λ t. (t.user, t.kernel)) (λ p. record { user = p.0; kernel = p.1 }) (λ _. refl)

abbrev pub columns_code : Coded Columns
columns_code =
    code_by
    (FinMap nat_cmp Entry × (FinMap nat_cmp Account × (FinMap nat_cmp Standing × (FinMap nat_cmp Way × (List ℕ × List Totals)))))
    (coded× (code coded_ℕ entry_code) (coded× (code coded_ℕ account_code) (coded× (code coded_ℕ standing_row.coded)
    (coded× (code coded_ℕ way_code) (coded× (coded_list coded_ℕ) (coded_list totals_code))))))
    (λ t. (t.entries, (t.accounts, (t.standings, (t.ways, (t.clocks, t.totals))))))
    (λ p. record { entries = p.0; accounts = p.1.0; standings = p.1.1.0; ways = p.1.1.1.0; clocks = p.1.1.1.1.0; totals = p.1.1.1.1.1 })
    (λ _. refl)
