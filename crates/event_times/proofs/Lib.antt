mod Along
