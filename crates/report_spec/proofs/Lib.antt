mod Published
