-- The promises of request E10, proved.
use mathlib.Core.Path.{refl, sym}
use lib.Dec.{T}
use Rattle.rules.proofs.Tests.{iff_eq}
use Rattle.finest.specs.Operations.{program_of}
use Rattle.finest.specs.Finest.{finest_cut}
use Rattle.finest.specs.Choppings.{together}
use Rattle.finest.specs.Chains.{Class}
use Rattle.finest.specs.Promises.{OursRespects, OursAccepted, OursFinest, OnlyOurs, PiecesAreClasses, CutFits}
use Rattle.finest.proofs.Linking.{linked-block, reached_self, reached_on, reached-way}
use Rattle.finest.proofs.Reached.{block_turned, block-program, of_together, together_of}
use Rattle.finest.proofs.Unions.{way-together}
use Rattle.finest.proofs.Accepting.{accepting}
use Rattle.finest.proofs.Fitting.{cut_fitting}
use Rattle.finest.proofs.Classes.{class_program, class_reached, way_class}

pub ours_respects : OursRespects
ours_respects os F i j l m t =
    let e = block-program os i j t in
    of_together os F i j l
    (record {
      known = m;
      program = e;
      reach = reached_on os (program_of os i) i j i l m l (linked-block os (program_of os i) j i (sym e) (block_turned os i j t)) (reached_self os (program_of os i) i l);
    })

pub ours_accepted : OursAccepted
ours_accepted = accepting

pub ours_finest : OursFinest
ours_finest os F c respects ok i j l m t =
    let O = together_of os F i j l m t in
    way-together os F c respects ok i l (reached-way os (program_of os i) i j l O.reach).1 O.program

pub only_ours : OnlyOurs
only_ours os F c respects ok finest i j l m =
    iff_eq (together os c i j) (together os (finest_cut os) i j)
    (λ t. finest (finest_cut os) (ours_respects os F) (ours_accepted os F) i j l m t)
    (λ t. ours_finest os F c respects ok i j l m t)

pub pieces_are_classes : PiecesAreClasses
pieces_are_classes os F i j l m = (there, back)
  where
    there : T (together os (finest_cut os) i j) → Class os (program_of os i) i j
    there t =
        let O = together_of os F i j l m t in
        way_class os (program_of os i) i l refl (sym O.program) (reached-way os (program_of os i) i j l O.reach).1

    back : Class os (program_of os i) i j → T (together os (finest_cut os) i j)
    back C =
        of_together os F i j l
        (record { known = m; program = sym (class_program os (program_of os i) i l C); reach = class_reached os (program_of os i) i l C })

pub cut_fits : CutFits
cut_fits words l r = cut_fitting words l r
