-- How a live query stands to an item: what it reads there is fixed (`Fixed`), or one past its writing, whose stamp is up to its start,
-- holds the item, so that no read of it is granted (`Open`). What a turn makes of either.
use Prim.Native.Nat.{ℕ, ◌+◌, ◌≤◌, ◌<◌}
use mathlib.Core.Path.{◌≡◌, refl, sym, ap, ◌∙◌, subst}
use mathlib.Core.Logic.{◌≢◌, ◌⊎◌, inl, inr}
use mathlib.Core.Bool.{true, false, ◌&&◌, cond}
use mathlib.Core.List.{[]}
use native.Mathlib.Omega.{arith}
use lib.Dec.{T, leb}
use borrow.Author.Tests.{eq-eqb, le-leb, leb-true}
use Rattle.rules.specs.Tables.{an_update, a_settled}
use Rattle.rules.specs.Answers.{Call}
use Rattle.rules.proofs.Tests.{same?, is_true, is_false, and_left, and_right}
use Rattle.history.specs.Happened.{got, Happening, accessed, update_committed, only_ended}
use Rattle.history.specs.Serial.{access_of}
use Rattle.history.specs.Undisturbed.{commit_of}
use Rattle.history.proofs.Invariant.{View, Fair, Row, Locks, update, query, settled, reader}
use Rattle.history.proofs.Turns.{Same, New, Gets, by_lock, by_own, by_start, by_set, Puts, Left, Settles, Turn, quiet, update_begins, query_begins, relaxed_begins, reads, writes}
use Rattle.history.proofs.Turns.{commits, commits_empty, settles, commits_settled, ends}
use Rattle.history.proofs.Standing.{Unknown, left-unknown}

-- the query n lives
pub record Lives (n : ℕ) (W : View) : Type 0 where
  pub slot : ℕ
  pub query : query W slot
  pub name : W.number slot ≡ n

-- it reads v of item x, and nobody past its writing can change that
pub record Fixed (n x v : ℕ) (W : View) : Type 0 where
  pub lives : Lives n W
  pub sees : W.snapshot lives.slot x ≡ v
  pub free : (r : ℕ) → settled W r → W.start r ≤ W.start lives.slot → T (W.writes r x) → ⊥

-- it would read v of item x, but m, past its writing, holds it
pub record Open (n x m v : ℕ) (W : View) : Type 0 where
  pub lives : Lives n W
  pub sees : W.snapshot lives.slot x ≡ v
  pub holder : ℕ
  pub past : settled W holder
  pub name : W.number holder ≡ m
  pub writes : T (W.writes holder x)
  pub early : W.start holder ≤ W.start lives.slot

-- ---- it begins
module _ (items x : ℕ) (bx : x < items) (W W' : View) (F : Fair items W) (s : ℕ) (B : New items W W' s) (q : query W' s) (z : W'.start s ≡ W.clock)
    (sees : (x : ℕ) → x < items → W'.snapshot s x ≡ W.current x) where
  abbrev L : Lives (W.last + 1) W'
  L = record { slot = s; query = q; name = B.number }

  other : (r : ℕ) → W.alive r → r ≢ s
  other r a e = B.free (subst (λ (m : ℕ). W.alive m) e a)

  pub began_open : (b : ℕ) → settled W b → T (W.writes b x) → Open (W.last + 1) x (W.number b) (W.current x) W'
  began_open b p w =
      let R = B.rows b (other b p.0) in
      let l = F.low b (p.0, λ k. let j = p.1 in omega arith, λ k. let j = p.1 in omega arith) in
      record {
        lives = L;
        sees = sees x bx;
        holder = b;
        past = (R.lives_on p.0, R.kind_is ∙ p.1);
        name = R.number_is;
        writes = subst T (sym ((B.locks b (other b p.0)).same_writes x bx)) w;
        early = let i = R.start_is in omega arith;
      }

  pub began_fixed : ((b : ℕ) → settled W b → T (W.writes b x) → ⊥) → Fixed (W.last + 1) x (W.current x) W'
  began_fixed none = record { lives = L; sees = sees x bx; free = λ r p l w. go r p w (same? r s) }
    where
      go : (r : ℕ) → settled W' r → T (W'.writes r x) → (r ≡ s) ⊎ (r ≢ s) → ⊥
      go r p w (inl e) = let i : W'.kind r ≡ W'.kind s = ap W'.kind e in let j = p.1 in let k = q.1 in omega arith
      go r p w (inr d) =
          let R = B.rows r d in
          none r (R.was p.0, sym R.kind_is ∙ p.1) (subst T ((B.locks r d).same_writes x bx) w)

-- ---- a turn
module _ (items : ℕ) (W W' : View) (F : Fair items W) (n x : ℕ) (bx : x < items) where
  -- nobody else reads by its number
  by_query : (L : Lives n W) (s v : ℕ) → W.number s ≡ n → W.alive s → s ≡ L.slot
  by_query L s v e a = go (same? s L.slot)
    where
      go : (s ≡ L.slot) ⊎ (s ≢ L.slot) → s ≡ L.slot
      go (inl z) = z
      go (inr d) = absurd (F.apart s L.slot a L.query.0 d (e ∙ sym L.name))

  -- its read gives what it sees, and it is not held back
  query_gets :
      (L : Lives n W) (s v : ℕ) → W.number s ≡ n → Gets items W W' s x v
      → (v ≡ W.snapshot L.slot x) × ((r : ℕ) → settled W r → W.start r ≤ W.start L.slot → T (W.writes r x) → ⊥)
  query_gets L s v e (by_lock u h is) =
      absurd (let z : W.kind s ≡ W.kind L.slot = ap W.kind (by_query L s v e u.0) in let k = u.1 in let j = L.query.1 in omega arith)
  query_gets L s v e (by_own u w is) =
      absurd (let z : W.kind s ≡ W.kind L.slot = ap W.kind (by_query L s v e u.0) in let k = u.1 in let j = L.query.1 in omega arith)
  query_gets L s v e (by_set u is) =
      absurd (let z : W.kind s ≡ W.kind L.slot = ap W.kind (by_query L s v e u.0) in let k = u.1 in let j = L.query.1 in omega arith)
  query_gets L s v e (by_start q held is) =
      let z = by_query L s v e q.0 in
      (is ∙ ap (λ (m : ℕ). W.snapshot m x) z, subst (λ (k : ℕ). (r : ℕ) → settled W r → W.start r ≤ W.start k → T (W.writes r x) → ⊥) z held)

  pub fixed_read : {c : Call} {v w : ℕ} → Fixed n x v W → Turn items W W' c (accessed n (got x w)) → w ≡ v
  fixed_read H (reads m s y u e b A g) = (query_gets H.lives s u e g).0 ∙ H.sees

  pub open_read : {c : Call} {m v w : ℕ} → Open n x m v W → Turn items W W' c (accessed n (got x w)) → ⊥
  open_read H (reads m s y u e b A g) = (query_gets H.lives s u e g).1 H.holder H.past H.early H.writes

  -- ---- it lives on
  abbrev lives_on : (L : Lives n W) → Row W W' L.slot → Lives n W'
  lives_on L R = record { slot = L.slot; query = (R.lives_on L.query.0, R.kind_is ∙ L.query.1); name = R.number_is ∙ L.name }

  as_reader : (L : Lives n W) (R : Row W W' L.slot) → reader W' L.slot
  as_reader L R = (R.lives_on L.query.0, λ z. let k = R.kind_is in let j = L.query.1 in omega arith, λ z. let k = R.kind_is in let j = L.query.1 in omega arith)

  -- who is past its writing since, with a stamp up to its start, and holds the item, was and did so before
  abbrev Before : ℕ → Type 0
  Before k = (r : ℕ) → settled W' r → W'.start r ≤ W.start k → T (W'.writes r x) → settled W r × (W.start r ≤ W.start k) × T (W.writes r x)

  -- one whose row and locks are as before
  before-kept : (k r : ℕ) → Row W W' r → Locks items W W' r → settled W' r → W'.start r ≤ W.start k → T (W'.writes r x)
      → settled W r × (W.start r ≤ W.start k) × T (W.writes r x)
  before-kept k r R K p l w =
      ((R.was p.0, sym R.kind_is ∙ p.1), let i = R.start_is in omega arith, subst T (K.same_writes x bx) w)

  fixed_kept :
      {v : ℕ} (H : Fixed n x v W) → (R : Row W W' H.lives.slot) → W'.snapshot H.lives.slot x ≡ v → Before H.lives.slot → Fixed n x v W'
  fixed_kept H R sees before =
      record {
        lives = lives_on H.lives R;
        sees = sees;
        free = λ r p l w.
            let o = before r p (let i = R.start_is in omega arith) w in
            H.free r o.0 o.1 o.2;
      }

  open_kept :
      {m v : ℕ} (H : Open n x m v W) → Row W W' H.lives.slot → W'.snapshot H.lives.slot x ≡ v → Row W W' H.holder
      → T (W'.writes H.holder x) → Open n x m v W'
  open_kept H R sees P w =
      record {
        lives = lives_on H.lives R;
        sees = sees;
        holder = H.holder;
        past = (P.lives_on H.past.0, P.kind_is ∙ H.past.1);
        name = P.number_is ∙ H.name;
        writes = w;
        early = let i = R.start_is in let j = P.start_is in let l = H.early in omega arith;
      }

  -- slots of other kinds are others
  not_kind : (r s : ℕ) → (W.kind r ≡ W.kind s → ⊥) → r ≢ s
  not_kind r s d e = d (ap W.kind e)

  -- ---- everybody as before
  module _ (A : Same items W W') where
    same_fixed : {v : ℕ} → Fixed n x v W → Fixed n x v W'
    same_fixed H =
        let R = A.rows H.lives.slot in
        fixed_kept H R (A.sees H.lives.slot x bx (as_reader H.lives R) ∙ H.sees)
        (λ r p l w. before-kept H.lives.slot r (A.rows r) (A.locks r) p l w)

    same_open : {m v : ℕ} → Open n x m v W → Open n x m v W'
    same_open H =
        let R = A.rows H.lives.slot in
        open_kept H R (A.sees H.lives.slot x bx (as_reader H.lives R) ∙ H.sees) (A.rows H.holder)
        (subst T (sym ((A.locks H.holder).same_writes x bx)) H.writes)

  -- ---- one more, in slot s
  module _ (s : ℕ) (B : New items W W' s) (k : W'.kind s ≢ a_settled) where
    here : (r : ℕ) → W.alive r → r ≢ s
    here r a e = B.free (subst (λ (j : ℕ). W.alive j) e a)

    new_fixed : {v : ℕ} → Fixed n x v W → Fixed n x v W'
    new_fixed H =
        let d = here H.lives.slot H.lives.query.0 in
        let R = B.rows H.lives.slot d in
        fixed_kept H R (B.sees H.lives.slot d x bx (as_reader H.lives R) ∙ H.sees) (λ r p l w. go r p l w (same? r s))
      where
        go : (r : ℕ) → settled W' r → W'.start r ≤ W.start H.lives.slot → T (W'.writes r x) → (r ≡ s) ⊎ (r ≢ s)
            → settled W r × (W.start r ≤ W.start H.lives.slot) × T (W.writes r x)
        go r p l w (inl e) = absurd (k (ap W'.kind (sym e) ∙ p.1))
        go r p l w (inr d) = before-kept H.lives.slot r (B.rows r d) (B.locks r d) p l w

    new_open : {m v : ℕ} → Open n x m v W → Open n x m v W'
    new_open H =
        let d = here H.lives.slot H.lives.query.0 in
        let c = here H.holder H.past.0 in
        let R = B.rows H.lives.slot d in
        open_kept H R (B.sees H.lives.slot d x bx (as_reader H.lives R) ∙ H.sees) (B.rows H.holder c)
        (subst T (sym ((B.locks H.holder c).same_writes x bx)) H.writes)

  -- ---- a write, in slot s
  module _ (s y w : ℕ) (Q : Puts items W W' s y w) where
    -- one past its writing holds afterwards what it held
    wrote : (r : ℕ) → settled W r → (r ≡ s) ⊎ (r ≢ s) → W'.writes r x ≡ W.writes r x
    wrote r p (inr d) = (Q.locks r d).same_writes x bx
    wrote r p (inl e) = rw e (mine Q.may (same? x y))
      where
        mine : (W.kind s ≡ an_update) ⊎ ((W.kind s ≡ a_settled) × T (W.writes s y)) → (x ≡ y) ⊎ (x ≢ y) → W'.writes s x ≡ W.writes s x
        mine (inl k) z = absurd (let i : W.kind r ≡ W.kind s = ap W.kind e in let j = p.1 in omega arith)
        mine (inr h) (inl z) = rw z (Q.writes_it ∙ sym (is_true (W.writes s y) h.1))
        mine (inr h) (inr d) = Q.writes_on x bx d

    put_fixed : {v : ℕ} → Fixed n x v W → Fixed n x v W'
    put_fixed H =
        let R = Q.rows H.lives.slot in
        fixed_kept H R (Q.sees H.lives.slot x bx (as_reader H.lives R) ∙ H.sees)
        (λ r p l u.
        let P = Q.rows r in
        let p' : settled W r = (P.was p.0, sym P.kind_is ∙ p.1) in
        (p', let i = P.start_is in omega arith, subst T (wrote r p' (same? r s)) u))

    put_open : {m v : ℕ} → Open n x m v W → Open n x m v W'
    put_open H =
        let R = Q.rows H.lives.slot in
        open_kept H R (Q.sees H.lives.slot x bx (as_reader H.lives R) ∙ H.sees) (Q.rows H.holder)
        (subst T (sym (wrote H.holder H.past (same? H.holder s))) H.writes)

  -- ---- a settle, in slot s: its stamp is above every start
  module _ (s : ℕ) (B : Settles items W W' s) where
    unlike : (r : ℕ) → W.kind r ≢ an_update → r ≢ s
    unlike r k e = k (ap W.kind e ∙ B.update.1)

    settle_fixed : {v : ℕ} → Fixed n x v W → Fixed n x v W'
    settle_fixed H =
        let L = H.lives in
        let d = unlike L.slot (λ z. let j = L.query.1 in omega arith) in
        let R = B.rows L.slot d in
        fixed_kept H R (B.sees L.slot d x bx (as_reader L R) ∙ H.sees) (λ r p l w. go r p l w (same? r s))
      where
        go : (r : ℕ) → settled W' r → W'.start r ≤ W.start H.lives.slot → T (W'.writes r x) → (r ≡ s) ⊎ (r ≢ s)
            → settled W r × (W.start r ≤ W.start H.lives.slot) × T (W.writes r x)
        go r p l w (inl e) =
            absurd
            (let i : W'.start r ≡ W'.start s = ap W'.start e in
            let j = B.start in
            let q = H.lives.query in
            let o = F.low H.lives.slot (q.0, λ z. let k = q.1 in omega arith, λ z. let k = q.1 in omega arith) in
            omega arith)
        go r p l w (inr d) = before-kept H.lives.slot r (B.rows r d) (B.locks r d) p l w

    settle_open : {m v : ℕ} → Open n x m v W → Open n x m v W'
    settle_open H =
        let L = H.lives in
        let d = unlike L.slot (λ z. let j = L.query.1 in omega arith) in
        let c = unlike H.holder (λ z. let j = H.past.1 in omega arith) in
        let R = B.rows L.slot d in
        open_kept H R (B.sees L.slot d x bx (as_reader L R) ∙ H.sees) (B.rows H.holder c)
        (subst T (sym ((B.locks H.holder c).same_writes x bx)) H.writes)

  -- ---- somebody else leaves, from slot s, and it sees v afterwards
  module _ (s : ℕ) (L : Left items W W' s) where
    left-before : (k r : ℕ) → settled W' r → W'.start r ≤ W.start k → T (W'.writes r x) → settled W r × (W.start r ≤ W.start k) × T (W.writes r x)
    left-before k r p l w =
        let d : r ≢ s = λ e. L.gone (subst (λ (j : ℕ). W'.alive j) e p.0) in
        before-kept k r (L.rows r d) (L.locks r d) p l w

    left_fixed : {v : ℕ} (H : Fixed n x v W) → H.lives.slot ≢ s → W'.snapshot H.lives.slot x ≡ v → Fixed n x v W'
    left_fixed H d sees = fixed_kept H (L.rows H.lives.slot d) sees (λ r p l w. left-before H.lives.slot r p l w)

    left_open : {m v : ℕ} (H : Open n x m v W) → H.lives.slot ≢ s → H.holder ≢ s → W'.snapshot H.lives.slot x ≡ v → Open n x m v W'
    left_open H d c sees =
        open_kept H (L.rows H.lives.slot d) sees (L.rows H.holder c) (subst T (sym ((L.locks H.holder c).same_writes x bx)) H.writes)

    -- the holder leaves: nobody else held the item
    freed : {m v : ℕ} (H : Open n x m v W) (w : ℕ) → H.holder ≡ s → H.lives.slot ≢ s → W'.snapshot H.lives.slot x ≡ w → Fixed n x w W'
    freed H w e d sees =
        record {
          lives = lives_on H.lives (L.rows H.lives.slot d);
          sees = sees;
          free = λ r p l u.
              let o = left-before H.lives.slot r p (let i = (L.rows H.lives.slot d).start_is in omega arith) u in
              F.alone H.holder r x bx
              (λ z. L.gone (subst (λ (j : ℕ). W'.alive j) (sym z ∙ e) p.0))
              H.writes (F.written_held r x o.2);
        }

  -- what a commit by one past its writing, in slot s, leaves of what it sees
  module _ (s : ℕ) (k : W.kind s ≡ a_settled) (L : Left items W W' s)
      (snap :
      (r x : ℕ) → r ≢ s → x < items → reader W' r
      → W'.snapshot r x ≡ cond (W.writes s x && leb (W.start s) (W.start r)) (W.working x) (W.snapshot r x)) where
    apart_from : (H : Lives n W) → H.slot ≢ s
    apart_from H e = let z : W.kind H.slot ≡ W.kind s = ap W.kind e in let j = H.query.1 in omega arith

    untouched_by :
        (H : Lives n W) → (T (W.writes s x) → W.start s ≤ W.start H.slot → ⊥) → W'.snapshot H.slot x ≡ W.snapshot H.slot x
    untouched_by H none =
        snap H.slot x (apart_from H) bx (as_reader H (L.rows H.slot (apart_from H)))
        ∙ rw (is_false (W.writes s x && leb (W.start s) (W.start H.slot))
        (λ t.
        none (and_left (W.writes s x) _ t)
        (leb-true (W.start s) (W.start H.slot) (is_true (leb (W.start s) (W.start H.slot)) (and_right (W.writes s x) _ t)))))

    touched_by : (H : Lives n W) → T (W.writes s x) → W.start s ≤ W.start H.slot → W'.snapshot H.slot x ≡ W.working x
    touched_by H w l =
        snap H.slot x (apart_from H) bx (as_reader H (L.rows H.slot (apart_from H)))
        ∙ rw (is_true (W.writes s x) w, le-leb (W.start s) (W.start H.slot) l)

  -- ---- what it reads stays fixed, until it ends
  pub fixed_on : {v : ℕ} {c : Call} {h : Happening} → Fixed n x v W → Turn items W W' c h → Unknown n W' ⊎ Fixed n x v W'
  fixed_on H (quiet A) = inr (same_fixed A H)
  fixed_on H (update_begins s B k f) = inr (new_fixed s B (λ z. omega arith) H)
  fixed_on H (query_begins s B q z e) = inr (new_fixed s B (λ z. let k = q.1 in omega arith) H)
  fixed_on H (relaxed_begins s B q e) = inr (new_fixed s B (λ z. let k = q.1 in omega arith) H)
  fixed_on H (reads m s y u e b A g) = inr (same_fixed A H)
  fixed_on H (writes m s y u e b P) = inr (put_fixed s y u P H)
  fixed_on H (commits m s e a k L sees f i) =
      let d : H.lives.slot ≢ s = not_kind H.lives.slot s (λ z. let j = H.lives.query.1 in omega arith) in
      inr (left_fixed s L H d (sees H.lives.slot d x bx (as_reader H.lives (L.rows H.lives.slot d)) ∙ H.sees))
  fixed_on H (commits_empty m s e a k w L sees f i) =
      let d : H.lives.slot ≢ s = not_kind H.lives.slot s (λ z. let j = H.lives.query.1 in omega arith) in
      inr (left_fixed s L H d (sees H.lives.slot d x bx (as_reader H.lives (L.rows H.lives.slot d)) ∙ H.sees))
  fixed_on H (settles m s e B) = inr (settle_fixed s B H)
  fixed_on H (commits_settled m s e a k L snap f i) =
      inr (left_fixed s L H (apart_from s k L snap H.lives) (untouched_by s k L snap H.lives (λ w l. H.free s (L.alive, k) l w) ∙ H.sees))
  fixed_on {v} H (ends m s e a L sees f i) = go (same? H.lives.slot s)
    where
      go : (H.lives.slot ≡ s) ⊎ (H.lives.slot ≢ s) → Unknown n W' ⊎ Fixed n x v W'
      go (inl z) = inl (left-unknown items W W' n F s (ap W.number (sym z) ∙ H.lives.name) L)
      go (inr d) = inr (left_fixed s L H d (sees H.lives.slot d x bx (as_reader H.lives (L.rows H.lives.slot d)) ∙ H.sees))

  -- ---- it stays open, until either ends
  pub data Next (m v : ℕ) (h : Happening) : Type 0 where
    over : Unknown n W' → Next m v h
    stays : Open n x m v W' → Next m v h
    aborted : Unknown m W' → Fixed n x v W' → commit_of m h ≡ false → Next m v h
    -- the holder b committed
    committed :
        (b : ℕ) → settled W b → W.number b ≡ m → T (W.writes b x) → Unknown m W' → Fixed n x (W.working x) W' → commit_of m h ≡ true → access_of m h ≡ []
        → Next m v h

  pub open_on : {m v : ℕ} {c : Call} {h : Happening} → Open n x m v W → Turn items W W' c h → Next m v h
  unfolding commit_of access_of
  open_on H (quiet A) = stays (same_open A H)
  open_on H (update_begins s B k f) = stays (new_open s B (λ z. omega arith) H)
  open_on H (query_begins s B q z e) = stays (new_open s B (λ z. let k = q.1 in omega arith) H)
  open_on H (relaxed_begins s B q e) = stays (new_open s B (λ z. let k = q.1 in omega arith) H)
  open_on H (reads k s y u e b A g) = stays (same_open A H)
  open_on H (writes k s y u e b P) = stays (put_open s y u P H)
  open_on H (commits j s e a k L sees f i) =
      let d : H.lives.slot ≢ s = not_kind H.lives.slot s (λ z. let j = H.lives.query.1 in omega arith) in
      let c : H.holder ≢ s = not_kind H.holder s (λ z. let j = H.past.1 in omega arith) in
      stays (left_open s L H d c (sees H.lives.slot d x bx (as_reader H.lives (L.rows H.lives.slot d)) ∙ H.sees))
  open_on H (commits_empty j s e a k w L sees f i) =
      let d : H.lives.slot ≢ s = not_kind H.lives.slot s (λ z. let j = H.lives.query.1 in omega arith) in
      let c : H.holder ≢ s = not_kind H.holder s (λ z. let j = H.past.1 in omega arith) in
      stays (left_open s L H d c (sees H.lives.slot d x bx (as_reader H.lives (L.rows H.lives.slot d)) ∙ H.sees))
  open_on H (settles j s e B) = stays (settle_open s B H)
  open_on {m} {v} H (commits_settled j s e a k L snap f i) = go (same? H.holder s)
    where
      go : (H.holder ≡ s) ⊎ (H.holder ≢ s) → Next m v (update_committed j (W.start s))
      go (inl z) =
          let name : W.number s ≡ m = ap W.number (sym z) ∙ H.name in
          let w : T (W.writes s x) = subst (λ (b : ℕ). T (W.writes b x)) z H.writes in
          let l : W.start s ≤ W.start H.lives.slot = subst (λ (b : ℕ). W.start b ≤ W.start H.lives.slot) z H.early in
          committed s (L.alive, k) name w (left-unknown items W W' m F s name L)
          (freed s L H (W.working x) z (apart_from s k L snap H.lives) (touched_by s k L snap H.lives w l))
          (eq-eqb j m (sym e ∙ name)) refl
      -- it does not hold the item, for the other does
      go (inr d) =
          stays
          (left_open s L H (apart_from s k L snap H.lives) d
          (untouched_by s k L snap H.lives (λ w l. F.alone H.holder s x bx d H.writes (F.written_held s x w)) ∙ H.sees))
  open_on {m} {v} H (ends j s e a L sees f i) = go (same? H.lives.slot s) (same? H.holder s)
    where
      seen : H.lives.slot ≢ s → W'.snapshot H.lives.slot x ≡ v
      seen d = sees H.lives.slot d x bx (as_reader H.lives (L.rows H.lives.slot d)) ∙ H.sees

      go : (H.lives.slot ≡ s) ⊎ (H.lives.slot ≢ s) → (H.holder ≡ s) ⊎ (H.holder ≢ s) → Next m v (only_ended j)
      go (inl z) c = over (left-unknown items W W' n F s (ap W.number (sym z) ∙ H.lives.name) L)
      go (inr d) (inl z) = aborted (left-unknown items W W' m F s (ap W.number (sym z) ∙ H.name) L) (freed s L H v z d (seen d)) refl
      go (inr d) (inr c) = stays (left_open s L H d c (seen d))
