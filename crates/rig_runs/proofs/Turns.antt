-- A list of calls, one call more.
use Rattle.std.proofs.Common.{◌≡◌, ℕ, ◌+◌, ◌<◌, min, List, [], ◌∷◌, ◌++◌, length, get_or, take, drop, set, refl, ap, arith}
use Rattle.std.proofs.lemmas.List.{drop-drop, drop-set-lt, drop_min, take_min, take-append-drop, take_more, take_more_set}
use Rattle.rig.specs.Benches.{Bench, answer_on, answers_on, run_on, step_on}
use Rattle.rig.specs.declared.calls.RigAnswer.{RigAnswer}
use Rattle.rig.specs.declared.calls.RigCall.{RigCall}

run_push : (b : Bench) (xs : List RigCall) (x : RigCall) → run_on b (xs ++ x ∷ []) ≡ step_on (run_on b xs) x
run_push b [] x = refl
run_push b (y ∷ ys) x = run_push (step_on b y) ys x

answers_push : (b : Bench) (xs : List RigCall) (x : RigCall) → answers_on b (xs ++ x ∷ []) ≡ answers_on b xs ++ answer_on (run_on b xs) x ∷ []
answers_push b [] x = refl
answers_push b (y ∷ ys) x = ap (λ (t : List RigAnswer). answer_on b y ∷ t) (answers_push (step_on b y) ys x)

-- the state after one call more
pub run_more : (b m n : Bench) (xs : List RigCall) (i : ℕ) (d : RigCall) → i < length xs
    → m ≡ run_on b (take i xs) → n ≡ step_on m (get_or xs i d) → n ≡ run_on b (take (i + 1) xs)
run_more b m n xs i d h k e = rw (take_more xs i d h, run_push, ← k) e

-- the answers after one call more
pub answers_more : (b m : Bench) (xs : List RigCall) (out : List RigAnswer) (i : ℕ) (d : RigCall) (a : RigAnswer) → i < length xs → i < length out
    → m ≡ run_on b (take i xs) → take i out ≡ answers_on b (take i xs) → a ≡ answer_on m (get_or xs i d)
    → take (i + 1) (set out i a) ≡ answers_on b (take (i + 1) xs)
answers_more b m xs out i d a h l k e q = rw (take_more_set out i a l, take_more xs i d h, answers_push, ← k, e, q) refl

-- what is not yet answered is as it was
pub rest_more : (out was : List RigAnswer) (i : ℕ) (a : RigAnswer) → drop i out ≡ drop i was → drop (i + 1) (set out i a) ≡ drop (i + 1) was
rest_more out was i a e = grind (arith, drop-set-lt (i + 1) out i a (omega arith), drop-drop 1 i out, drop-drop 1 i was)

min_comm : (a b : ℕ) → min a b ≡ min b a
min_comm a b = omega arith

-- the state at the end
pub run_end : (b n : Bench) (xs : List RigCall) (was : List RigAnswer) (i : ℕ) → i ≡ min (length xs) (length was)
    → n ≡ run_on b (take i xs) → n ≡ run_on b (take (length was) xs)
run_end b n xs was i e q = grind (arith, min_comm, take_min (length was) xs)

-- the answers at the end
pub answers_end : (b : Bench) (xs : List RigCall) (out was : List RigAnswer) (i : ℕ) → i ≡ min (length xs) (length was)
    → take i out ≡ answers_on b (take i xs) → drop i out ≡ drop i was
    → out ≡ answers_on b (take (length was) xs) ++ drop (length xs) was
answers_end b xs out was i e t d = grind (arith, min_comm, take_min (length was) xs, drop_min (length xs) was, take-append-drop i out)
