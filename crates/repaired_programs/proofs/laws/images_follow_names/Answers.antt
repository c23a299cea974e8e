use Rattle.repaired_programs.proofs.Together.{same_image, same_link_fault}
use Rattle.repaired_programs.proofs.laws.images_follow_names.Goals as goal

pub returns-clause-images : goal.returns-clause-images
returns-clause-images c = λ m l g new made shape bare named entry. same_image l new g c.words_are_of_images.ensures m made (c.words_are_counted.ensures g) shape bare named entry

pub returns-clause-faults : goal.returns-clause-faults
returns-clause-faults c = λ m l g new made shape bare named. same_link_fault l new g c.words_are_of_images.ensures m made (c.words_are_counted.ensures g) shape bare named
