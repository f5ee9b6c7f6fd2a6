-- What two lists of locals both know is the most that flows from both.
use Rattle.std.proofs.Common.{◌≡◌, suc, ◌≤◌, ◌<◌, true, false, List, [], ◌∷◌, length, Option, Some, None, refl, sym, ap, ◌∙◌, subst, inl, inr, arith, ◌⊎◌, if◌then◌else◌}
use Rattle.pv_frame.proofs.Words.{AllZip, Sort, Frame, fits, Flows, met, merged, SameStack, known, known_in, weight_of}
use Rattle.pv_frame.specs.declared.sort.Sort.TheVariants as sort
use Rattle.pv_frame.proofs.FrameLaws.{Less, fits_same, some_of, no_some}

abbrev meet : Sort → Sort → Sort
meet s t = if fits s t then t else sort.Unknown

less_first : (s t : Sort) → Less s (meet s t)
less_first s t = elim (fits s t) as (λ b. fits s t ≡ b → Less s (if b then t else sort.Unknown)) [ true ↦ λ e. inl (sym (fits_same s t e)) | false ↦ λ e. inr refl ] refl

less_second : (s t : Sort) → Less t (meet s t)
less_second s t = elim (fits s t) as (λ b. Less t (if b then t else sort.Unknown)) [ true ↦ inl refl | false ↦ inr refl ]

meet_itself : (s : Sort) → s ≡ meet s s
meet_itself sort.Int = refl
meet_itself s = refl

greatest_at : (s t u : Sort) → Less s u → Less t u → Less (meet s t) u
greatest_at s t u (inl e) (inl d) = inl (meet_itself u ∙ ap (λ (x : Sort). meet x u) e ∙ ap (λ (x : Sort). meet s x) d)
greatest_at s t u (inr e) _ = inr e
greatest_at s t u _ (inr d) = inr d

met_first : (ss ts : List Sort) → length ss ≡ length ts → AllZip Less ss (met ss ts)
met_first [] ts e = tt
met_first (s ∷ ss) [] e = absurd (omega arith)
met_first (s ∷ ss) (t ∷ ts) e = (less_first s t, met_first ss ts (omega arith))

met_second : (ss ts : List Sort) → length ss ≡ length ts → AllZip Less ts (met ss ts)
met_second [] [] e = tt
met_second [] (t ∷ ts) e = absurd (omega arith)
met_second (s ∷ ss) [] e = absurd (omega arith)
met_second (s ∷ ss) (t ∷ ts) e = (less_second s t, met_second ss ts (omega arith))

met_greatest : (ss ts us : List Sort) → AllZip Less ss us → AllZip Less ts us → AllZip Less (met ss ts) us
met_greatest [] [] [] p q = tt
met_greatest [] ts (u ∷ us) p q = elim p [ ]
met_greatest [] (t ∷ ts) [] p q = elim q [ ]
met_greatest (s ∷ ss) ts [] p q = elim p [ ]
met_greatest (s ∷ ss) [] (u ∷ us) p q = elim q [ ]
met_greatest (s ∷ ss) (t ∷ ts) (u ∷ us) p q = (greatest_at s t u p.0 q.0, met_greatest ss ts us p.1 q.1)

pub met_length : (ss ts : List Sort) → length ss ≡ length ts → length (met ss ts) ≡ length ss
met_length [] ts e = refl
met_length (s ∷ ss) [] e = absurd (omega arith)
met_length (s ∷ ss) (t ∷ ts) e = ap suc (met_length ss ts (omega arith))

-- ---- how much is known

known_one : (s : Sort) → known s ≤ 1
known_one sort.Int = omega arith
known_one s = omega arith

pub known_all : (ss : List Sort) → known_in ss ≤ length ss
known_all [] = omega arith
known_all (s ∷ ss) = omega (arith, known_one s, known_all ss)

-- the second keeps what it knows where the first flows to it, and else knows less
meet_known : (s t : Sort) → (Less s t × (meet s t ≡ t)) ⊎ (known (meet s t) < known t)
meet_known sort.Int sort.Int = inl (inl refl, refl)
meet_known sort.Long sort.Long = inl (inl refl, refl)
meet_known sort.Ref sort.Ref = inl (inl refl, refl)
meet_known s sort.Unknown = inl (inr refl, unknown s)
  where
    unknown : (s : Sort) → meet s sort.Unknown ≡ sort.Unknown
    unknown sort.Int = refl
    unknown s = refl
meet_known s t = inr (omega arith)

met_known : (ss ts : List Sort) → length ss ≡ length ts → (AllZip Less ss ts × (met ss ts ≡ ts)) ⊎ (known_in (met ss ts) < known_in ts)
met_known [] [] e = inl (tt, refl)
met_known [] (t ∷ ts) e = absurd (omega arith)
met_known (s ∷ ss) [] e = absurd (omega arith)
met_known (s ∷ ss) (t ∷ ts) e = both (meet_known s t) (met_known ss ts (omega arith))
  where
    both : (Less s t × (meet s t ≡ t)) ⊎ (known (meet s t) < known t) → (AllZip Less ss ts × (met ss ts ≡ ts)) ⊎ (known_in (met ss ts) < known_in ts) → (AllZip Less (s ∷ ss) (t ∷ ts) × (met (s ∷ ss) (t ∷ ts) ≡ t ∷ ts)) ⊎ (known_in (met (s ∷ ss) (t ∷ ts)) < known_in (t ∷ ts))
    both (inl p) (inl q) = inl ((p.0, q.0), cc (p.1, q.1))
    both (inl p) (inr q) = let same = ap known p.1 in inr (omega arith)
    both (inr p) (inl q) = let same = ap known_in q.1 in inr (omega arith)
    both (inr p) (inr q) = inr (omega arith)

-- ---- frames

pub record Meets (source : Frame) (slot : Option Frame) (next : Frame) : Type 0 where
  pub from_source : Flows source next
  pub from_slot : (f : Frame) → slot ≡ Some f → Flows f next
  pub greatest : (h : Frame) → Flows source h → ((f : Frame) → slot ≡ Some f → Flows f h) → Flows next h
  pub locals : length next.locals ≡ length source.locals
  pub lighter : ((f : Frame) → slot ≡ Some f → Flows source f → ⊥) → suc (known_in next.locals) ≤ weight_of (length source.locals) slot

all_less_itself : (ss : List Sort) → AllZip Less ss ss
all_less_itself [] = tt
all_less_itself (s ∷ ss) = (inl refl, all_less_itself ss)

pub flows_itself : (f : Frame) → Flows f f
flows_itself f = record { stack = refl; locals = all_less_itself f.locals }

pub merged_meets : (source : Frame) (slot : Option Frame) → SameStack source slot → ((f : Frame) → slot ≡ Some f → length f.locals ≡ length source.locals) → Meets source slot (merged source slot)
merged_meets source None same long = record {
  from_source = flows_itself source;
  from_slot = λ f e. no_some f e;
  greatest = λ h p q. p;
  locals = refl;
  lighter = λ no_flow. omega (arith, known_all source.locals);
}
merged_meets source (Some f) same long =
    let even : length source.locals ≡ length f.locals = sym (long f refl) in
    record {
      from_source = record { stack = same; locals = met_first source.locals f.locals even };
      from_slot = λ g e. subst (λ (x : Frame). Flows x (merged source (Some f))) (some_of _ _ e) (record { stack = refl; locals = met_second source.locals f.locals even });
      greatest = λ h p q. record { stack = (q f refl).stack; locals = met_greatest source.locals f.locals h.locals p.locals (q f refl).locals };
      locals = met_length source.locals f.locals even;
      lighter = λ no_flow. elim (met_known source.locals f.locals even) [
        | inl p ↦ absurd (no_flow f refl (record { stack = same; locals = p.0 }))
        | inr less ↦ omega (arith, less)
      ];
    }
