-- However the input is cut into chunks, the lines read are those of the whole input.
use Prim.Native.Nat.{ℕ, ◌+◌, ◌<◌, ◌≤◌}
use mathlib.Core.Path.{◌≡◌, refl, sym, ap, ap₂, ◌∙◌}
use mathlib.Core.Bool.{Bool, true, false, cond}
use mathlib.Core.List.{List, [], ◌∷◌, ◌++◌, map, append_assoc}
use native.Mathlib.Omega.{arith}
use lib.Dec.{eqb, leb, ltb}
use lib.ListN.{length, length-append}
use borrow.Author.Tests.{le-leb, lt-leb, lt-ltb, le-ltb, leb-true, leb-false}
use Rattle.script.specs.Parse.{parsed}
use Rattle.lines.specs.Lines.{Held, short, long, more, begun, gather, ends, unended, left, joined, lines_from, lines_of}
use Rattle.script.specs.Inputs.{read_as, reads, last, chunked, parsed_lines}
use Rattle.rules.specs.Answers.{Call}
use Rattle.std.proofs.Common.{Option}

-- ---- what is kept of a line is enough

unfoldable pub held : List ℕ → Held
held l = cond (leb (length l) 80) (short l) long

held-short : (l : List ℕ) → length l ≤ 80 → held l ≡ short l
unfolding held
held-short l h = rw (le-leb (length l) 80 h)

held-long : (l : List ℕ) → 80 < length l → held l ≡ long
unfolding held
held-long l h = rw (lt-leb (length l) 80 h)

-- by the length of a line
short_or_long : {A : Type 0} (l : List ℕ) → (length l ≤ 80 → A) → (80 < length l → A) → A
short_or_long {A} l a b = go (leb (length l) 80) refl
  where
    go : (g : Bool) → leb (length l) 80 ≡ g → A
    go true e = a (leb-true (length l) 80 e)
    go false e = b (leb-false (length l) 80 e)

longer : (l : List ℕ) (b : ℕ) → length (l ++ (b ∷ [])) ≡ length l + 1
longer l b = length-append l (b ∷ [])

held_more : (l : List ℕ) (b : ℕ) → more (held l) b ≡ held (l ++ (b ∷ []))
unfolding more
held_more l b =
    short_or_long (l ++ (b ∷ []))
    (λ h. rw (held-short l (omega (arith, longer l b)), held-short (l ++ (b ∷ [])) h, lt-ltb (length l) 80 (omega (arith, longer l b))) refl)
    (λ h.
    short_or_long l
    (λ g. rw (held-short l g, held-long (l ++ (b ∷ [])) h, le-ltb (length l) 80 (omega (arith, longer l b))) refl)
    (λ g. rw (held-long l g, held-long (l ++ (b ∷ [])) h) refl))

held-read : (l : List ℕ) → read_as (held l) ≡ parsed l
unfolding read_as parsed
held-read l = short_or_long l (λ h. rw (held-short l h)) (λ h. rw (held-long l h, lt-leb (length l) 80 h))

held-begun : (l : List ℕ) → begun (held l) ≡ ltb 0 (length l)
unfolding begun
held-begun l = short_or_long l (λ h. rw (held-short l h)) (λ h. rw (held-long l h) (sym (lt-ltb 0 (length l) (omega arith))))

-- ---- the whole input as one chunk

alone : (g : Bool) (l : List ℕ) → cond {A = List (Option Call)} g (parsed l ∷ []) [] ≡ map parsed (cond {A = List (List ℕ)} g (l ∷ []) [])
alone true l = refl
alone false l = refl

whole : (bs l : List ℕ) → reads (held l) bs ++ last (left (held l) bs) ≡ map parsed (lines_from l bs)
unfolding reads left last lines_from
whole [] l = rw (held-begun l, held-read l) (alone (ltb 0 (length l)) l)
whole (b ∷ bs) l = go (eqb b 10) refl (whole bs []) (whole bs (l ++ (b ∷ [])))
  where
    none : held [] ≡ short []
    none = held-short [] (omega arith)

    go : (g : Bool)
        → eqb b 10 ≡ g
        → reads (held []) bs ++ last (left (held []) bs) ≡ map parsed (lines_from [] bs)
        → reads (held (l ++ (b ∷ []))) bs ++ last (left (held (l ++ (b ∷ []))) bs) ≡ map parsed (lines_from (l ++ (b ∷ [])) bs)
        → cond {A = List (Option Call)} (eqb b 10) (read_as (held l) ∷ reads (short []) bs) (reads (more (held l) b) bs) ++ last (cond (eqb b 10) (left (short []) bs) (left (more (held l) b) bs))
        ≡ map parsed (cond {A = List (List ℕ)} (eqb b 10) (l ∷ lines_from [] bs) (lines_from (l ++ (b ∷ [])) bs))
    go true e next on = rw (e, held-read l) (ap (λ (ps : List (Option Call)). parsed l ∷ ps) (rw none at next))
    go false e next on = rw (e, held_more l b) on

-- ---- chunk after chunk

pub reads-append : (bs cs : List ℕ) (h : Held) → reads h (bs ++ cs) ≡ reads h bs ++ reads (left h bs) cs
unfolding reads left
reads-append [] cs h = refl
reads-append (b ∷ bs) cs h = go (eqb b 10) refl (reads-append bs cs (short [])) (reads-append bs cs (more h b))
  where
    go : (g : Bool)
        → eqb b 10 ≡ g
        → reads (short []) (bs ++ cs) ≡ reads (short []) bs ++ reads (left (short []) bs) cs
        → reads (more h b) (bs ++ cs) ≡ reads (more h b) bs ++ reads (left (more h b) bs) cs
        → reads h (b ∷ (bs ++ cs)) ≡ reads h (b ∷ bs) ++ reads (left h (b ∷ bs)) cs
    go true e next on = rw e (ap (λ (ps : List (Option Call)). read_as h ∷ ps) next)
    go false e next on = rw e on

pub left-append : (bs cs : List ℕ) (h : Held) → left h (bs ++ cs) ≡ left (left h bs) cs
unfolding left
left-append [] cs h = refl
left-append (b ∷ bs) cs h = go (eqb b 10) refl (left-append bs cs (short [])) (left-append bs cs (more h b))
  where
    go : (g : Bool)
        → eqb b 10 ≡ g
        → left (short []) (bs ++ cs) ≡ left (left (short []) bs) cs
        → left (more h b) (bs ++ cs) ≡ left (left (more h b) bs) cs
        → left h (b ∷ (bs ++ cs)) ≡ left (left h (b ∷ bs)) cs
    go true e next on = rw e next
    go false e next on = rw e on

any-cut : (cs : List (List ℕ)) (h : Held) → chunked h cs ≡ reads h (joined cs) ++ last (left h (joined cs))
unfolding chunked joined reads left
any-cut [] h = refl
any-cut (c ∷ cs) h =
    ap (λ (ps : List (Option Call)). reads h c ++ ps) (any-cut cs (left h c))
    ∙ sym (append_assoc (reads h c) (reads (left h c) (joined cs)) (last (left (left h c) (joined cs))))
    ∙ ap₂ (λ (ps : List (Option Call)) (k : Held). ps ++ last k) (sym (reads-append c (joined cs) h)) (sym (left-append c (joined cs) h))

-- whatever way the input is cut into chunks, the lines read are those of the whole input
pub chunks : (cs : List (List ℕ)) → chunked (short []) cs ≡ parsed_lines (joined cs)
unfolding parsed_lines lines_of held
chunks cs = any-cut cs (short []) ∙ whole (joined cs) []

-- ---- what `next` finds in a chunk

pub gather-reads : (bs : List ℕ) (h k : Held) (rest : List ℕ) → gather h bs ≡ ends k rest → (reads h bs ≡ read_as k ∷ reads (short []) rest) × (left h bs ≡ left (short []) rest)
unfolding gather reads left
gather-reads [] h k rest e = let z : ◌≡◌ {A = ℕ} 0 1 = cc in absurd (omega arith)
gather-reads (b ∷ bs) h k rest e = go (eqb b 10) refl (λ f. gather-reads bs (more h b) k rest f)
  where
    go : (g : Bool)
        → eqb b 10 ≡ g
        → (gather (more h b) bs ≡ ends k rest → (reads (more h b) bs ≡ read_as k ∷ reads (short []) rest) × (left (more h b) bs ≡ left (short []) rest))
        → (reads h (b ∷ bs) ≡ read_as k ∷ reads (short []) rest) × (left h (b ∷ bs) ≡ left (short []) rest)
    go true q on =
        let f : ends h bs ≡ ends k rest = rw q at e in
        let x : h ≡ k = cc in
        let y : bs ≡ rest = cc in
        rw (q, x, y) (refl, refl)
    go false q on = rw q (on (rw q at e))

pub gather-left : (bs : List ℕ) (h k : Held) → gather h bs ≡ unended k → (reads h bs ≡ []) × (left h bs ≡ k)
unfolding gather reads left
gather-left [] h k e = (refl, cc)
gather-left (b ∷ bs) h k e = go (eqb b 10) refl (λ f. gather-left bs (more h b) k f)
  where
    go : (g : Bool)
        → eqb b 10 ≡ g
        → (gather (more h b) bs ≡ unended k → (reads (more h b) bs ≡ []) × (left (more h b) bs ≡ k))
        → (reads h (b ∷ bs) ≡ []) × (left h (b ∷ bs) ≡ k)
    go true q on =
        let f : ends h bs ≡ unended k = rw q at e in
        let z : ◌≡◌ {A = ℕ} 0 1 = cc in
        absurd (omega arith)
    go false q on = rw q (on (rw q at e))
