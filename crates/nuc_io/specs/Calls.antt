-- The calls of an object in memory, some of which are to fail.
use Rattle.std.specs.Prelude.{ℕ, ◌+◌, ◌-◌, ◌^◌, min, List, Bool, ◌==◌, if◌then◌else◌}
use Rattle.std.specs.List.{list_any}

-- how many calls were made, now and at the last settling, the numbers of those that fail, from 1, and how many have failed
pub record CallsData : Type 0 where
  pub made : ℕ
  pub settled : ℕ
  pub failing : List ℕ
  pub faults : ℕ

-- one more, which stays at the last value of a u64
abbrev pub one_more : ℕ → ℕ
one_more n = min (n + 1) (2 ^ 64 - 1)

-- whether the next call is to fail
abbrev pub is_to_fail : CallsData → Bool
is_to_fail calls = list_any (λ k. k == one_more calls.made) calls.failing

-- the calls after the next one
abbrev pub after_call : CallsData → Bool → CallsData
after_call calls failed = record {
  made = one_more calls.made;
  settled = calls.settled;
  failing = calls.failing;
  faults = if failed then one_more calls.faults else calls.faults;
}

-- those made now are settled
abbrev pub settled_calls : CallsData → CallsData
settled_calls calls = record calls { settled = calls.made }

-- those made since the last settling don't count; which are to fail, and how many have failed, stays
abbrev pub calls_back : CallsData → CallsData
calls_back calls = record calls { made = calls.settled }
